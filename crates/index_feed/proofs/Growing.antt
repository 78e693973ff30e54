-- What a change of an item queues, and a catalog command, keep what is kept.
use Rattle.std.proofs.Common.{◌≡◌, inl, inr, ℕ, ◌≤◌, true, false, nat_eq, List, [], ◌∷◌, ◌++◌, Option, None, Some, is_some, if◌then◌else◌, refl, sym, ap, ◌∙◌, subst, arith}
use Rattle.std.specs.List.{list_any, flat_map}
use Rattle.std.proofs.lemmas.Bool.{cond_both, cases_Bool, eqb-true, eq-eqb, or_cases}
use Rattle.index_feed.specs.declared.change.Change.{Change}
use Rattle.index_feed.specs.Feed.{at, Indexed, Feed, Event, Sets, Commands, Each, showing, served, row_in, at_key, is_at, overlay, changes, founding, gather, step, feed, due, WasPeeked, WasSent, IsRuled, IsLawful, arranged, founded}
use Rattle.index_feed.proofs.Arranged.{added, others}
use Rattle.index_feed.proofs.Overlays.{each_append, each_flat, each_weaker, each_if, each_and, overlay_append, leaves, agrees}
use Rattle.index_feed.proofs.Queued.{at_is, not_at_index, Telling, telling_changes, telling_founding, others_leave, changes_move, founding_founds, founding_new}
use Rattle.index_feed.proofs.Kept.{at_split, top_append, true_false, is_none, peek_append, peek_sequence, peek_back, peek_each, Spent, Sound, Kept}

module _ {K V C : Type 0} (I : Indexed K V C) where
  some_from : (x y : Option V) → ((r : V) → x ≡ Some r → y ≡ Some r) → is_some x ≡ true → is_some y ≡ true
  some_from None y h e = absurd (cc)
  some_from (Some r) y h e = ap (λ z. is_some z) (h r refl)

  -- outboxes grow at their ends, under this catalog, with these rows
  abbrev pub grown :
      Feed K V C → C → (K → Option V) → (ℕ → List K) → (ℕ → List (Change K V)) → (ℕ → K → Option V) → Feed K V C
  grown f c row keys extra shown =
      record { catalog = c; row = row; keys = keys; row_keys = f.row_keys; sent = f.sent; outbox = λ i. f.outbox i ++ extra i; mark = f.mark; shown = shown }

  -- an index that was drawn and is served was served before; rows of indexes that are served stay
  pub record Grows (c0 : C) (es : List (Event K V C)) (e : Event K V C) (f : Feed K V C) (c : C) (row : K → Option V) (keys : ℕ → List K) (extra : ℕ → List (Change K V)) (shown : ℕ → K → Option V) : Type 0 where
    pub listed : (k : K) → is_some (row k) ≡ true → list_any (λ x. I.same x k) (keys (I.cell_of k)) ≡ true
    pub due :
        (g : ℕ) (q : K) → served I c g (I.item_of q) ≡ true
        → overlay I (f.outbox (I.cell_of (I.item_of q)) ++ extra (I.cell_of (I.item_of q))) g q (shown g q) ≡ at_key I q (row_in I c g (I.item_of q) (row (I.item_of q)))
    pub gone : (g : ℕ) (q : K) → served I c g (I.item_of q) ≡ false → shown g q ≡ None
    pub sound : (i : ℕ) → Each (Sound I c0 (e ∷ es) c i) (extra i)
    pub drawn : I.drawn f.catalog ≤ I.drawn c
    pub back : (g : ℕ) (k : K) → served I c g k ≡ true → g ≤ I.drawn f.catalog → served I f.catalog g k ≡ true
    pub stays : (g : ℕ) (q : K) → served I c g (I.item_of q) ≡ true → shown g q ≡ f.shown g q
    pub from : (g : ℕ) (q : K) (r : V) → shown g q ≡ Some r → f.shown g q ≡ Some r

  spent_on :
      (c0 : C) (es : List (Event K V C)) (e : Event K V C) (f : Feed K V C) (c : C) (row : K → Option V) (keys : ℕ → List K) (extra : ℕ → List (Change K V)) (shown : ℕ → K → Option V)
      → Grows c0 es e f c row keys extra shown → (i s : ℕ) (x : Change K V) → Spent I f.mark f.catalog i s x
      → Spent I f.mark c i s x
  spent_on c0 es e f c row keys extra shown h i s x (inl a) = inl a
  spent_on c0 es e f c row keys extra shown h i s x (inr b) =
      let d = h.drawn in
      inr (
        elim (cases_Bool (served I c x.index (I.item_of x.key))) [
          | inl t ↦ true_false (served I f.catalog x.index (I.item_of x.key)) (h.back x.index (I.item_of x.key) t b.1) b.0
          | inr t ↦ t
        ],
        omega (arith, d, b.1),
      )

  pub grows_kept :
      (c0 : C) (es : List (Event K V C)) (e : Event K V C) (f : Feed K V C) (c : C) (row : K → Option V) (keys : ℕ → List K) (extra : ℕ → List (Change K V)) (shown : ℕ → K → Option V)
      → Kept I c0 es f → Grows c0 es e f c row keys extra shown
      → ((i s : ℕ) (x : Change K V) → WasPeeked I (e ∷ es) i s x → WasPeeked I es i s x)
      → ((i s : ℕ) → WasSent I (e ∷ es) i s → WasSent I es i s)
      → Kept I c0 (e ∷ es) (grown f c row keys extra shown)
  grows_kept c0 es e f c row keys extra shown k h peeked sent =
      record {
        listed = h.listed;
        rows_listed = λ g q e. k.rows_listed g q (some_from (shown g q) (f.shown g q) (λ r w. h.from g q r w) e);
        due = λ g q sq. h.due g q sq ∙ sym (ap (λ b. if b then at_key I q (row_in I c g (I.item_of q) (row (I.item_of q))) else None) sq);
        gone = h.gone;
        sound = λ i.
            each_append (Sound I c0 (e ∷ es) c i) (f.outbox i) (extra i)
            (each_weaker (Sound I c0 es f.catalog i) (Sound I c0 (e ∷ es) c i) (f.outbox i)
            (λ x s. let d = h.drawn in let b = s.drawn in record { home = s.home; drawn = omega (arith, d, b); seen = λ r w. inr (s.seen r w) }) (k.sound i))
            (h.sound i);
        shown = λ g q r w. inr (k.shown g q r (h.from g q r w));
        marks = λ t i. let a = k.marks t i in let b = top_append (f.sent i) (f.outbox i) (extra i) in omega (arith, a, b);
        first = λ i o w below sv.
            elim (peek_back (f.sent i) (f.outbox i) (extra i) o w) [
              | inl here ↦
                  let theirs : Sound I c0 es f.catalog i o.change = peek_each (Sound I c0 es f.catalog i) (f.sent i) (f.outbox i) o here (k.sound i) in
                  h.stays o.change.index o.change.key sv
                  ∙ k.first i o here below (h.back o.change.index (I.item_of o.change.key) sv theirs.drawn)
              | inr empty ↦
                  let a = peek_sequence (f.sent i) (f.outbox i ++ extra i) o w in
                  let b = k.marks (I.cell_of o.change.key) i in
                  absurd (omega (arith, a, b, empty, below))
            ];
        peeked = λ i s x w.
            elim (k.peeked i s x (peeked i s x w)) [
              | inl here ↦ inl (peek_append (f.sent i) (f.outbox i) (extra i) (showing s x) here)
              | inr p ↦ inr (p.0, spent_on c0 es e f c row keys extra shown h i s x p.1)
            ];
        sent = λ i s w.
            elim (k.sent i s (sent i s w)) [
              | inl p ↦ inl p
              | inr p ↦ inr (record {
                change = p.change;
                is_first = peek_append (f.sent i) (f.outbox i) (extra i) (showing s p.change) p.is_first;
                spent = spent_on c0 es e f c row keys extra shown h i s p.change p.spent;
              })
            ];
      }

  module _ (law : IsLawful I) where
    -- what an event queues, and tells of its item, was due then
    sound_extra :
        (c0 : C) (es : List (Event K V C)) (e : Event K V C) (f : Feed K V C) (c : C) (k : K) (now : Option V) (i : ℕ) (xs : List (Change K V))
        → feed I c0 (e ∷ es) ≡ f → f.catalog ≡ c → f.row k ≡ now → I.cell_of k ≡ i → Telling I law c k now xs
        → Each (Sound I c0 (e ∷ es) c i) xs
    sound_extra c0 es e f c k now i xs is cat row home t =
        each_weaker (λ x. (I.item_of x.key ≡ k) × (served I c x.index k ≡ true) × (x.after ≡ at_key I x.key (row_in I c x.index k now))) (Sound I c0 (e ∷ es) c i) xs
        (λ x h. record {
          home = ap I.cell_of h.0 ∙ home;
          drawn = law.known c x.index k h.1;
          seen = λ r w. inl (
              ap (λ y. due I y x.index x.key) is
              ∙ ap (λ y. if served I y x.index (I.item_of x.key) then at_key I x.key (row_in I y x.index (I.item_of x.key) (f.row (I.item_of x.key))) else None) cat
              ∙ ap (λ y. if served I c x.index y then at_key I x.key (row_in I c x.index y (f.row y)) else None) h.0
              ∙ ap (λ b. if b then at_key I x.key (row_in I c x.index k (f.row k)) else None) h.1
              ∙ ap (λ v. at_key I x.key (row_in I c x.index k v)) row
              ∙ sym h.2 ∙ w);
        }) t

    -- an item's committed row changes
    set_grows :
        (c0 : C) (es : List (Event K V C)) (f : Feed K V C) (k : K) (new : Option V) → Kept I c0 es f
        → feed I c0 es ≡ f
        → Grows c0 es (Sets k new) f f.catalog (λ q. if I.same k q then new else f.row q) (at f.keys (I.cell_of k) (arranged I k (f.keys (I.cell_of k)))) (λ i. if nat_eq (I.cell_of k) i then changes I f.catalog k (f.row k) new else []) f.shown
    set_grows c0 es f k new h is =
        record {
          listed = λ q.
              cond_both (I.same k q) new (f.row q) (λ v. is_some v ≡ true → list_any (λ x. I.same x q) (at f.keys (I.cell_of k) (arranged I k (f.keys (I.cell_of k))) (I.cell_of q)) ≡ true)
              (λ s _. at_split f.keys (I.cell_of k) (arranged I k (f.keys (I.cell_of k))) (I.cell_of q) (λ ys. list_any (λ x. I.same x q) ys ≡ true)
              (λ _. subst (λ y. list_any (λ x. I.same x y) (arranged I k (f.keys (I.cell_of k))) ≡ true) (law.exact k q s) (added I law k (f.keys (I.cell_of k))))
              (λ apart. absurd (apart (ap I.cell_of (law.exact k q s)))))
              (λ _ w. at_split f.keys (I.cell_of k) (arranged I k (f.keys (I.cell_of k))) (I.cell_of q) (λ ys. list_any (λ x. I.same x q) ys ≡ true)
              (λ m. others I law k q (f.keys (I.cell_of k)) (subst (λ z. list_any (λ x. I.same x q) (f.keys z) ≡ true) (sym m) (h.listed q w)))
              (λ _. h.listed q w));
          due = λ g q sv.
              let x = f.shown g q in
              let j = I.cell_of (I.item_of q) in
              let queued = changes I f.catalog k (f.row k) new in
              let old : overlay I (f.outbox j) g q x ≡ at_key I q (row_in I f.catalog g (I.item_of q) (f.row (I.item_of q))) =
              h.due g q sv ∙ ap (λ b. if b then at_key I q (row_in I f.catalog g (I.item_of q) (f.row (I.item_of q))) else None) sv
              in
              overlay_append I (f.outbox j) (if nat_eq (I.cell_of k) j then queued else []) g q x
              ∙ ap (λ y. overlay I (if nat_eq (I.cell_of k) j then queued else []) g q y) old
              ∙ elim (cases_Bool (I.same k (I.item_of q))) [
                | inl s ↦
                    let i : k ≡ I.item_of q = law.exact k (I.item_of q) s in
                    let here : nat_eq (I.cell_of k) j ≡ true = eq-eqb (I.cell_of k) j (ap I.cell_of i) in
                    ap (λ b. overlay I (if b then queued else []) g q (at_key I q (row_in I f.catalog g (I.item_of q) (f.row (I.item_of q))))) here
                    ∙ changes_move I law f.catalog k (f.row k) new g q (at_key I q (row_in I f.catalog g (I.item_of q) (f.row (I.item_of q)))) (subst (λ y. served I f.catalog g y ≡ true) (sym i) sv) (ap (λ y. at_key I q (row_in I f.catalog g y (f.row y))) (sym i))
                    ∙ ap (λ y. at_key I q (row_in I f.catalog g y new)) i
                    ∙ sym (ap (λ b. at_key I q (row_in I f.catalog g (I.item_of q) (if b then new else f.row (I.item_of q)))) s)
                | inr s ↦
                    let y = at_key I q (row_in I f.catalog g (I.item_of q) (f.row (I.item_of q))) in
                    cond_both (nat_eq (I.cell_of k) j) queued [] (λ xs. overlay I xs g q y ≡ y)
                    (λ _. others_leave I law f.catalog k new g q y queued (λ e. true_false (I.same k (I.item_of q)) (subst (λ z. I.same k z ≡ true) (sym e) (law.itself k)) s) (telling_changes I law f.catalog k (f.row k) new))
                    (λ _. refl)
                    ∙ sym (ap (λ b. at_key I q (row_in I f.catalog g (I.item_of q) (if b then new else f.row (I.item_of q)))) s)
              ];
          gone = h.gone;
          sound = λ i.
              each_if (Sound I c0 (Sets k new ∷ es) f.catalog i) (nat_eq (I.cell_of k) i) (changes I f.catalog k (f.row k) new)
              (λ e. sound_extra c0 es (Sets k new) (step I f (Sets k new)) f.catalog k new i (changes I f.catalog k (f.row k) new)
              (ap (λ y. step I y (Sets k new)) is) refl (ap (λ b. if b then new else f.row k) (law.itself k)) (eqb-true (I.cell_of k) i e) (telling_changes I law f.catalog k (f.row k) new));
          drawn = omega arith;
          back = λ g q s _. s;
          stays = λ g q _. refl;
          from = λ g q r e. e;
        }

    pub set_kept :
        (c0 : C) (es : List (Event K V C)) (f : Feed K V C) (k : K) (new : Option V) → Kept I c0 es f
        → feed I c0 es ≡ f → Kept I c0 (Sets k new ∷ es) (step I f (Sets k new))
    set_kept c0 es f k new h is =
        grows_kept c0 es (Sets k new) f f.catalog (λ q. if I.same k q then new else f.row q) (at f.keys (I.cell_of k) (arranged I k (f.keys (I.cell_of k)))) (λ i. if nat_eq (I.cell_of k) i then changes I f.catalog k (f.row k) new else []) f.shown h (set_grows c0 es f k new h is) (λ i s x w. w) (λ i s w. w)

    -- the list of keys has those that were gathered, and those that it had
    gather_had :
        (i : ℕ) (q : K) (ks keys : List K) → list_any (λ x. I.same x q) keys ≡ true
        → list_any (λ x. I.same x q) (gather I i ks keys) ≡ true
    gather_had i q [] keys h = h
    gather_had i q (k ∷ ks) keys h =
        cond_both (nat_eq (I.cell_of k) i) (arranged I k (gather I i ks keys)) (gather I i ks keys) (λ ys. list_any (λ x. I.same x q) ys ≡ true)
        (λ _. others I law k q (gather I i ks keys) (gather_had i q ks keys h)) (λ _. gather_had i q ks keys h)

    gather_new :
        (q : K) (ks keys : List K) → list_any (λ x. I.same x q) ks ≡ true
        → list_any (λ x. I.same x q) (gather I (I.cell_of q) ks keys) ≡ true
    gather_new q [] keys h = absurd (cc)
    gather_new q (k ∷ ks) keys h =
        let more = gather I (I.cell_of q) ks keys in
        elim (or_cases (I.same k q) (list_any (λ x. I.same x q) ks) h) [
          | inl s ↦
              let is = law.exact k q s in
              ap (λ b. list_any (λ x. I.same x q) (if b then arranged I k more else more)) (eq-eqb (I.cell_of k) (I.cell_of q) (ap I.cell_of is))
              ∙ subst (λ y. list_any (λ x. I.same x y) (arranged I k more) ≡ true) is (added I law k more)
          | inr t ↦
              cond_both (nat_eq (I.cell_of k) (I.cell_of q)) (arranged I k more) more (λ ys. list_any (λ x. I.same x q) ys ≡ true)
              (λ _. others I law k q more (gather_new q ks keys t)) (λ _. gather_new q ks keys t)
        ]

    says :
        (b c : C) (row : K → Option V) (i g : ℕ) (q : K) (ks : List K)
        → Each (λ x. is_at I x g q ≡ true → x.after ≡ at_key I q (row_in I c g (I.item_of q) (row (I.item_of q)))) (flat_map (founded I b c row i) ks)
    says b c row i g q ks =
        each_flat (λ x. is_at I x g q ≡ true → x.after ≡ at_key I q (row_in I c g (I.item_of q) (row (I.item_of q)))) (founded I b c row i) ks
        (λ k. each_if (λ x. is_at I x g q ≡ true → x.after ≡ at_key I q (row_in I c g (I.item_of q) (row (I.item_of q)))) (nat_eq (I.cell_of k) i) (founding I b c k (row k))
        (λ _. each_weaker (λ x. (I.item_of x.key ≡ k) × (served I c x.index k ≡ true) × (x.after ≡ at_key I x.key (row_in I c x.index k (row k)))) (λ x. is_at I x g q ≡ true → x.after ≡ at_key I q (row_in I c g (I.item_of q) (row (I.item_of q)))) (founding I b c k (row k))
        (λ x h e. let p = at_is I law x g q e in
        h.2
        ∙ ap (λ y. at_key I x.key (row_in I c x.index y (row y))) (sym h.0)
        ∙ ap (λ y. at_key I y (row_in I c x.index (I.item_of y) (row (I.item_of y)))) p.1
        ∙ ap (λ i. at_key I q (row_in I c i (I.item_of q) (row (I.item_of q)))) p.0)
        (telling_founding I law b c k (row k))))

    -- an index that was there is left alone
    spared :
        (b c : C) (row : K → Option V) (i g : ℕ) (q : K) (ks : List K) → served I b g (I.item_of q) ≡ true
        → Each (λ x. is_at I x g q ≡ false) (flat_map (founded I b c row i) ks)
    spared b c row i g q ks was =
        each_flat (λ x. is_at I x g q ≡ false) (founded I b c row i) ks
        (λ k. each_if (λ x. is_at I x g q ≡ false) (nat_eq (I.cell_of k) i) (founding I b c k (row k))
        (λ _. each_weaker (λ x. ((I.item_of x.key ≡ k) × (served I c x.index k ≡ true) × (x.after ≡ at_key I x.key (row_in I c x.index k (row k)))) × (served I b x.index k ≡ false)) (λ x. is_at I x g q ≡ false) (founding I b c k (row k))
        (λ x h. elim (cases_Bool (is_at I x g q)) [
          | inl e ↦
              let p = at_is I law x g q e in
              true_false (served I b g (I.item_of q)) was (ap (λ y. served I b g (I.item_of y)) (sym p.1) ∙ ap (λ y. served I b g y) h.0.0 ∙ ap (λ y. served I b y k) (sym p.0) ∙ h.1)
          | inr e ↦ e
        ])
        (each_and (λ x. (I.item_of x.key ≡ k) × (served I c x.index k ≡ true) × (x.after ≡ at_key I x.key (row_in I c x.index k (row k)))) (λ x. served I b x.index k ≡ false) (founding I b c k (row k))
        (telling_founding I law b c k (row k)) (founding_new I law b c k (row k)))))

    -- a new index gets the row of each item that is listed
    founds_walk :
        (b c : C) (row : K → Option V) (g : ℕ) (q : K) (ks : List K) (x : Option V)
        → list_any (λ y. I.same y (I.item_of q)) ks ≡ true → served I c g (I.item_of q) ≡ true
        → served I b g (I.item_of q) ≡ false → x ≡ None
        → overlay I (flat_map (founded I b c row (I.cell_of (I.item_of q))) ks) g q x ≡ at_key I q (row_in I c g (I.item_of q) (row (I.item_of q)))
    founds_walk b c row g q [] x member sv new e = absurd (cc)
    founds_walk b c row g q (k ∷ ks) x member sv new e =
        let i = I.cell_of (I.item_of q) in
        overlay_append I (founded I b c row i k) (flat_map (founded I b c row i) ks) g q x
        ∙ elim (cases_Bool (I.same k (I.item_of q))) [
          | inl s ↦
              let is : k ≡ I.item_of q = law.exact k (I.item_of q) s in
              agrees I (flat_map (founded I b c row i) ks) g q (overlay I (founded I b c row i k) g q x) (at_key I q (row_in I c g (I.item_of q) (row (I.item_of q)))) (says b c row i g q ks)
              (subst (λ y. overlay I (founded I b c row i y) g q x ≡ at_key I q (row_in I c g (I.item_of q) (row (I.item_of q)))) (sym is)
              (ap (λ t. overlay I (if t then founding I b c (I.item_of q) (row (I.item_of q)) else []) g q x) (eq-eqb i i refl)
              ∙ founding_founds I law b c (I.item_of q) (row (I.item_of q)) g q x sv new e))
          | inr s ↦
              ap (λ y. overlay I (flat_map (founded I b c row i) ks) g q y)
              (cond_both (nat_eq (I.cell_of k) i) (founding I b c k (row k)) [] (λ xs. overlay I xs g q x ≡ x)
              (λ _. others_leave I law c k (row k) g q x (founding I b c k (row k)) (λ e. true_false (I.same k (I.item_of q)) (subst (λ z. I.same k z ≡ true) (sym e) (law.itself k)) s) (telling_founding I law b c k (row k)))
              (λ _. refl))
              ∙ founds_walk b c row g q ks x (elim (or_cases (I.same k (I.item_of q)) (list_any (λ y. I.same y (I.item_of q)) ks) member) [ inl a ↦ true_false (I.same k (I.item_of q)) a s | inr b ↦ b ]) sv new e
        ]

    founds :
        (b c : C) (row : K → Option V) (g : ℕ) (q : K) (ks : List K) (x : Option V)
        → (is_some (row (I.item_of q)) ≡ true → list_any (λ y. I.same y (I.item_of q)) ks ≡ true)
        → served I c g (I.item_of q) ≡ true → served I b g (I.item_of q) ≡ false → x ≡ None
        → overlay I (flat_map (founded I b c row (I.cell_of (I.item_of q))) ks) g q x ≡ at_key I q (row_in I c g (I.item_of q) (row (I.item_of q)))
    founds b c row g q ks x listed sv new e =
        elim (cases_Bool (is_some (row (I.item_of q)))) [
          | inl t ↦ founds_walk b c row g q ks x (listed t) sv new e
          | inr t ↦
              agrees I (flat_map (founded I b c row (I.cell_of (I.item_of q))) ks) g q x (at_key I q (row_in I c g (I.item_of q) (row (I.item_of q)))) (says b c row (I.cell_of (I.item_of q)) g q ks)
              (e ∙ sym (ap (λ v. at_key I q (row_in I c g (I.item_of q) v)) (is_none (row (I.item_of q)) t)))
        ]

    steady_in :
        (f : Feed K V C) (c : C) (ks : List K) (row : K → Option V) → IsRuled I f c ks row
        → (g : ℕ) (k : K) (v : Option V) → served I c g k ≡ true → served I f.catalog g k ≡ true
        → row_in I c g k v ≡ row_in I f.catalog g k v
    steady_in f c ks row r g k None s t = refl
    steady_in f c ks row r g k (Some v) s t = r.steady g k v s t

    rule_grows :
        (c0 : C) (es : List (Event K V C)) (f : Feed K V C) (c : C) (ks : List K) (row : K → Option V)
        → Kept I c0 es f → feed I c0 es ≡ f → IsRuled I f c ks row
        → Grows c0 es (Commands c ks row) f c row (λ i. gather I i ks (f.keys i)) (λ i. flat_map (founded I f.catalog c row i) (gather I i ks (f.keys i))) (λ g q. if served I c g (I.item_of q) then f.shown g q else None)
    rule_grows c0 es f c ks row h is r =
        let listed : (k : K) → is_some (row k) ≡ true
        → list_any (λ x. I.same x k) (gather I (I.cell_of k) ks (f.keys (I.cell_of k))) ≡ true =
        λ k w. elim (r.lists k w) [ inl a ↦ gather_had (I.cell_of k) k ks (f.keys (I.cell_of k)) (h.listed k a) | inr b ↦ gather_new k ks (f.keys (I.cell_of k)) b ]
        in
        record {
          listed = listed;
          due = λ g q sv.
              let k = I.item_of q in
              let j = I.cell_of k in
              let more = flat_map (founded I f.catalog c row j) (gather I j ks (f.keys j)) in
              overlay_append I (f.outbox j) more g q (if served I c g k then f.shown g q else None)
              ∙ ap (λ b. overlay I more g q (overlay I (f.outbox j) g q (if b then f.shown g q else None))) sv
              ∙ elim (cases_Bool (served I f.catalog g k)) [
                | inl was ↦
                    leaves I more g q (overlay I (f.outbox j) g q (f.shown g q)) (spared f.catalog c row j g q (gather I j ks (f.keys j)) was)
                    ∙ h.due g q was
                    ∙ ap (λ b. if b then at_key I q (row_in I f.catalog g k (f.row k)) else None) was
                    ∙ ap (λ v. at_key I q (row_in I f.catalog g k v)) (sym (r.stays g k sv was))
                    ∙ ap (λ v. at_key I q v) (sym (steady_in f c ks row r g k (row k) sv was))
                | inr new ↦
                    founds f.catalog c row g q (gather I j ks (f.keys j)) (overlay I (f.outbox j) g q (f.shown g q)) (listed k) sv new
                    (leaves I (f.outbox j) g q (f.shown g q)
                    (each_weaker (Sound I c0 es f.catalog j) (λ x. is_at I x g q ≡ false) (f.outbox j)
                    (λ x s. not_at_index I law x g q (λ e. elim (r.comes g k sv) [
                      | inl a ↦ true_false (served I f.catalog g k) a new
                      | inr b ↦ let d = s.drawn in absurd (omega (arith, b, d, e))
                    ])) (h.sound j))
                    ∙ h.gone g q new)
              ];
          gone = λ g q lost. ap (λ b. if b then f.shown g q else None) lost;
          sound = λ i.
              each_flat (Sound I c0 (Commands c ks row ∷ es) c i) (founded I f.catalog c row i) (gather I i ks (f.keys i))
              (λ k. each_if (Sound I c0 (Commands c ks row ∷ es) c i) (nat_eq (I.cell_of k) i) (founding I f.catalog c k (row k))
              (λ e. sound_extra c0 es (Commands c ks row) (step I f (Commands c ks row)) c k (row k) i (founding I f.catalog c k (row k))
              (ap (λ y. step I y (Commands c ks row)) is) refl refl (eqb-true (I.cell_of k) i e) (telling_founding I law f.catalog c k (row k))));
          drawn = r.grows;
          back = λ g k s d. elim (r.comes g k s) [ inl a ↦ a | inr b ↦ absurd (omega (arith, b, d)) ];
          stays = λ g q sv. ap (λ b. if b then f.shown g q else None) sv;
          from = λ g q x. cond_both (served I c g (I.item_of q)) (f.shown g q) None (λ y. y ≡ Some x → f.shown g q ≡ Some x) (λ _ e. e) (λ _ e. absurd (cc));
        }

    pub rule_kept :
        (c0 : C) (es : List (Event K V C)) (f : Feed K V C) (c : C) (ks : List K) (row : K → Option V)
        → Kept I c0 es f → feed I c0 es ≡ f → IsRuled I f c ks row
        → Kept I c0 (Commands c ks row ∷ es) (step I f (Commands c ks row))
    rule_kept c0 es f c ks row h is r =
        grows_kept c0 es (Commands c ks row) f c row (λ i. gather I i ks (f.keys i)) (λ i. flat_map (founded I f.catalog c row i) (gather I i ks (f.keys i))) (λ g q. if served I c g (I.item_of q) then f.shown g q else None) h (rule_grows c0 es f c ks row h is r) (λ i s x w. w) (λ i s w. w)
