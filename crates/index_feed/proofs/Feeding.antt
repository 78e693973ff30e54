-- An ApplyIndex keeps what is kept, whether it is Fed or Already.
use Rattle.std.proofs.Common.{◌≡◌, ◌⊎◌, inl, inr, ℕ, suc, ◌<◌, ◌≤◌, true, false, ◌&&◌, nat_eq, nat_lt, List, [], ◌∷◌, Option, None, Some, if◌then◌else◌, refl, sym, ap, ◌∙◌, subst, arith, is_some}
use Rattle.std.proofs.lemmas.Bool.{cond_both, cases_Bool, and_parts, and_from, and_cases, and_right, eqb-true, eqb-false, eq-eqb, ltb-true, ltb-false}
use Rattle.index_feed.specs.declared.change.Change.{Change}
use Rattle.std.specs.List.{list_any}
use Rattle.index_feed.proofs.Arranged.{added, others}
use Rattle.index_feed.specs.Feed.{arranged, Indexed, Feed, Event, Feeds, showing, peek, served, is_at, overlay, is_fed, fed, due, out, WasPeeked, WasDue, IsLawful}
use Rattle.index_feed.proofs.Queued.{at_is, not_at_key}
use Rattle.index_feed.proofs.Kept.{at_split, top, true_false, peek_sequence, peek_top, peek_each, out_parts, Spent, FirstSpent, Sound, Kept, older, still}

-- a row that the outbox's first is of is as it says, whatever it was
module _ {K V C : Type 0} (I : Indexed K V C) where
  covered :
      (n : ℕ) (xs : List (Change K V)) (s : ℕ) (c : Change K V) (g : ℕ) (q : K) (x y : Option V)
      → peek n xs ≡ Some (showing s c) → is_at I c g q ≡ true → overlay I xs g q x ≡ overlay I xs g q y
  covered n [] s c g q x y e a = absurd (cc)
  covered n (d ∷ xs) s c g q x y e a =
      let same : d ≡ c = (out_parts (suc n) s d c e).1 in
      let b : is_at I d g q ≡ true = subst (λ z. is_at I z g q ≡ true) (sym same) a in
      ap (λ t. overlay I xs g q (if t then d.after else x)) b ∙ sym (ap (λ t. overlay I xs g q (if t then d.after else y)) b)

  module _ (law : IsLawful I) where
    at_own : (c : Change K V) → is_at I c c.index c.key ≡ true
    at_own c = and_from (nat_eq c.index c.index) (I.same c.key c.key) (eq-eqb c.index c.index refl) (law.itself c.key)

    -- a mark only grows
    grown_mark :
        (f : Feed K V C) (i s : ℕ) (c : Change K V) → f.mark (I.cell_of c.key) i < s → (t j : ℕ)
        → f.mark t j ≤ (fed I f i s c).mark t j
    grown_mark f i s c below t j =
        cond_both (nat_eq t (I.cell_of c.key) && nat_eq j i) s (f.mark t j) (λ n. f.mark t j ≤ n)
        (λ e. let p = and_parts (nat_eq t (I.cell_of c.key)) (nat_eq j i) e in
        subst (λ u. f.mark u j ≤ s) (sym (eqb-true t (I.cell_of c.key) p.0)) (subst (λ u. f.mark (I.cell_of c.key) u ≤ s) (sym (eqb-true j i p.1)) (omega arith)))
        (λ _. omega arith)

    spent_still :
        (f : Feed K V C) (i s : ℕ) (c : Change K V) → f.mark (I.cell_of c.key) i < s → (j u : ℕ) (x : Change K V)
        → Spent I f.mark f.catalog j u x → Spent I (fed I f i s c).mark f.catalog j u x
    spent_still f i s c below j u x (inl a) = let g = grown_mark f i s c below (I.cell_of x.key) j in inl (omega arith)
    spent_still f i s c below j u x (inr b) = inr b

    now_spent : (f : Feed K V C) (i s : ℕ) (c : Change K V) → Spent I (fed I f i s c).mark f.catalog i s c
    now_spent f i s c =
        inl (subst (λ n. s ≤ n) (sym (ap (λ b. if b then s else f.mark (I.cell_of c.key) i) (and_from (nat_eq (I.cell_of c.key) (I.cell_of c.key)) (nat_eq i i) (eq-eqb (I.cell_of c.key) (I.cell_of c.key) refl) (eq-eqb i i refl)))) (omega arith))

    -- one that is Fed is the first of its outbox
    fed_first :
        (c0 : C) (es : List (Event K V C)) (f : Feed K V C) (i s : ℕ) (c : Change K V) → Kept I c0 es f
        → WasPeeked I es i s c → f.mark (I.cell_of c.key) i < s
        → served I f.catalog c.index (I.item_of c.key) ≡ true → out I f i ≡ Some (showing s c)
    fed_first c0 es f i s c k was below sv =
        elim (k.peeked i s c was) [
          | inl here ↦ here
          | inr h ↦ elim h.1 [ inl a ↦ absurd (omega arith) | inr b ↦ true_false (served I f.catalog c.index (I.item_of c.key)) sv b.0 ]
        ]

    pub applied :
        (c0 : C) (es : List (Event K V C)) (f : Feed K V C) (i s : ℕ) (c : Change K V) → Kept I c0 es f
        → WasPeeked I es i s c → f.mark (I.cell_of c.key) i < s
        → served I f.catalog c.index (I.item_of c.key) ≡ true → Kept I c0 (Feeds i s c ∷ es) (fed I f i s c)
    applied c0 es f i s c k was below sv =
        let here = fed_first c0 es f i s c k was below sv in
        let own : Sound I c0 es f.catalog i c = peek_each (Sound I c0 es f.catalog i) (f.sent i) (f.outbox i) (showing s c) here (k.sound i) in
        record {
          listed = k.listed;
          rows_listed = λ g q e.
              at_split f.row_keys (I.cell_of c.key) (arranged I c.key (f.row_keys (I.cell_of c.key))) (I.cell_of q) (λ ys. list_any (λ x. I.same x q) ys ≡ true)
              (λ m. cond_both (is_at I c g q) c.after (f.shown g q) (λ v. is_some v ≡ true → list_any (λ x. I.same x q) (arranged I c.key (f.row_keys (I.cell_of c.key))) ≡ true)
              (λ a _. subst (λ y. list_any (λ x. I.same x y) (arranged I c.key (f.row_keys (I.cell_of c.key))) ≡ true) (at_is I law c g q a).1 (added I law c.key (f.row_keys (I.cell_of c.key))))
              (λ _ h. others I law c.key q (f.row_keys (I.cell_of c.key)) (subst (λ z. list_any (λ x. I.same x q) (f.row_keys z) ≡ true) (sym m) (k.rows_listed g q h))) e)
              (λ apart. cond_both (is_at I c g q) c.after (f.shown g q) (λ v. is_some v ≡ true → list_any (λ x. I.same x q) (f.row_keys (I.cell_of q)) ≡ true)
              (λ a _. absurd (apart (ap I.cell_of (at_is I law c g q a).1)))
              (λ _ h. k.rows_listed g q h) e);
          due = λ g q sq.
              cond_both (is_at I c g q) c.after (f.shown g q) (λ y. overlay I (f.outbox (I.cell_of (I.item_of q))) g q y ≡ due I f g q)
              (λ a. let p = at_is I law c g q a in
              let home : I.cell_of (I.item_of q) ≡ i = subst (λ y. I.cell_of (I.item_of y) ≡ i) p.1 own.home in
              subst (λ j. overlay I (f.outbox j) g q c.after ≡ overlay I (f.outbox j) g q (f.shown g q)) (sym home) (covered (f.sent i) (f.outbox i) s c g q c.after (f.shown g q) here a)
              ∙ k.due g q sq)
              (λ _. k.due g q sq);
          gone = λ g q lost.
              cond_both (is_at I c g q) c.after (f.shown g q) (λ y. y ≡ None)
              (λ a. let p = at_is I law c g q a in
              true_false (served I f.catalog g (I.item_of q)) (subst (λ h. served I f.catalog h (I.item_of q) ≡ true) p.0 (subst (λ y. served I f.catalog c.index (I.item_of y) ≡ true) p.1 sv)) lost)
              (λ _. k.gone g q lost);
          sound = λ j. older I c0 es (Feeds i s c) f.catalog j (f.outbox j) (k.sound j);
          shown = λ g q r.
              cond_both (is_at I c g q) c.after (f.shown g q) (λ y. y ≡ Some r → WasDue I c0 (Feeds i s c ∷ es) g q r)
              (λ a e. let p = at_is I law c g q a in inr (subst (λ h. WasDue I c0 es h q r) p.0 (subst (λ y. WasDue I c0 es c.index y r) p.1 (own.seen r e))))
              (λ _ e. inr (k.shown g q r e));
          marks = λ t j.
              cond_both (nat_eq t (I.cell_of c.key) && nat_eq j i) s (f.mark t j) (λ n. n ≤ top (f.sent j) (f.outbox j))
              (λ e. let p = and_parts (nat_eq t (I.cell_of c.key)) (nat_eq j i) e in
              let a = peek_top (f.sent i) (f.outbox i) (showing s c) here in
              let b : s ≡ suc (f.sent i) = peek_sequence (f.sent i) (f.outbox i) (showing s c) here in
              subst (λ z. s ≤ top (f.sent z) (f.outbox z)) (sym (eqb-true j i p.1)) (omega (arith, a, b)))
              (λ _. k.marks t j);
          first = λ j o e.
              elim (cases_Bool (nat_eq j i)) [
                | inl m ↦
                    let n : j ≡ i = eqb-true j i m in
                    let same : c ≡ o.change = ap (λ p. elim p as (λ _. Change K V) [ None ↦ c | Some u ↦ u.change ]) (sym here ∙ subst (λ z. out I f z ≡ Some o) n e) in
                    λ below sw. subst (λ x. (if is_at I c x.index x.key then c.after else f.shown x.index x.key) ≡ x.after) same (ap (λ b. if b then c.after else f.shown c.index c.key) (at_own c))
                | inr m ↦
                    let apart : j ≡ i → ⊥ = eqb-false j i m in
                    let theirs : Sound I c0 es f.catalog j o.change = peek_each (Sound I c0 es f.catalog j) (f.sent j) (f.outbox j) o e (k.sound j) in
                    let off : is_at I c o.change.index o.change.key ≡ false = not_at_key I law c o.change.index o.change.key (λ y. apart (sym theirs.home ∙ ap (λ z. I.cell_of (I.item_of z)) (sym y) ∙ own.home)) in
                    λ below sw. ap (λ b. if b then c.after else f.shown o.change.index o.change.key) off
                    ∙ k.first j o e (subst (λ b. o.sequence ≤ (if b then s else f.mark (I.cell_of o.change.key) j)) (and_right (nat_eq (I.cell_of o.change.key) (I.cell_of c.key)) (nat_eq j i) m) below) sw
              ];
          peeked = λ j u x w. elim (k.peeked j u x w) [ inl h ↦ inl h | inr h ↦ inr (h.0, spent_still f i s c below j u x h.1) ];
          sent = λ j u w.
              elim w [
                | inl p ↦ inr (subst (λ z. FirstSpent I (fed I f i s c).mark f.catalog z (f.sent z) (f.outbox z) u) p.0
                    (subst (λ z. FirstSpent I (fed I f i s c).mark f.catalog i (f.sent i) (f.outbox i) z) p.1 (record { change = c; is_first = here; spent = now_spent f i s c })))
                | inr w ↦ elim (k.sent j u w) [ inl h ↦ inl h | inr h ↦ inr (record { change = h.change; is_first = h.is_first; spent = spent_still f i s c below j u h.change h.spent }) ]
              ];
        }

    -- one that is Already: the mark is not below it, or the index is gone
    pub already :
        (c0 : C) (es : List (Event K V C)) (f : Feed K V C) (i s : ℕ) (c : Change K V) → Kept I c0 es f
        → WasPeeked I es i s c → is_fed I f i s c ≡ false → Kept I c0 (Feeds i s c ∷ es) f
    already c0 es f i s c k was not_fed =
        still I c0 es (Feeds i s c) f k k.peeked
        (λ j u w. elim w [
          | inl p ↦ subst (λ z. (u ≤ f.sent z) ⊎ FirstSpent I f.mark f.catalog z (f.sent z) (f.outbox z) u) p.0
              (subst (λ z. (z ≤ f.sent i) ⊎ FirstSpent I f.mark f.catalog i (f.sent i) (f.outbox i) z) p.1
              (elim (k.peeked i s c was) [
                | inl here ↦
                    let own : Sound I c0 es f.catalog i c = peek_each (Sound I c0 es f.catalog i) (f.sent i) (f.outbox i) (showing s c) here (k.sound i) in
                    inr (record {
                      change = c;
                      is_first = here;
                      spent = elim (and_cases (nat_lt (f.mark (I.cell_of c.key) i) s) (served I f.catalog c.index (I.item_of c.key)) not_fed) [
                        | inl a ↦ inl (ltb-false (f.mark (I.cell_of c.key) i) s a)
                        | inr b ↦ inr (b, own.drawn)
                      ];
                    })
                | inr h ↦ inl h.0
              ]))
          | inr w ↦ k.sent j u w
        ])

    pub fed_or_not :
        (c0 : C) (es : List (Event K V C)) (f : Feed K V C) (i s : ℕ) (c : Change K V) → Kept I c0 es f
        → WasPeeked I es i s c → Kept I c0 (Feeds i s c ∷ es) (if is_fed I f i s c then fed I f i s c else f)
    fed_or_not c0 es f i s c k was =
        cond_both (is_fed I f i s c) (fed I f i s c) f (λ h. Kept I c0 (Feeds i s c ∷ es) h)
        (λ e. let p = and_parts (nat_lt (f.mark (I.cell_of c.key) i) s) (served I f.catalog c.index (I.item_of c.key)) e in
        applied c0 es f i s c k was (ltb-true (f.mark (I.cell_of c.key) i) s p.0) p.1)
        (λ e. already c0 es f i s c k was e)
