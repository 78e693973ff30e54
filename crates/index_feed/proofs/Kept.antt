-- What is kept after every legal list of events, and why each event keeps it.
use Rattle.std.proofs.Common.{◌≡◌, ◌⊎◌, inl, inr, ℕ, suc, ◌≤◌, Bool, true, false, nat_eq, List, [], ◌∷◌, ◌++◌, Option, None, Some, is_some, if◌then◌else◌, refl, sym, ap, ◌∙◌, subst, arith}
use Rattle.std.specs.List.{list_any}
use Rattle.std.proofs.lemmas.Bool.{cond_both, cases_Bool, eqb-true, eqb-false}
use Rattle.index_feed.specs.declared.change.Change.{Change}
use Rattle.index_feed.specs.Feed.{Out, Indexed, Feed, Event, Acks, Each, showing, peek, at, served, is_at, overlay, due, out, WasPeeked, WasSent, WasDue, IsLawful}
use Rattle.index_feed.proofs.Overlays.{each_weaker}
use Rattle.index_feed.proofs.Queued.{at_is}

-- the greatest sequence that may be applied
abbrev pub top : {X : Type 0} → ℕ → List X → ℕ
top n [] = n
top n (x ∷ xs) = suc n

pub top_least : {X : Type 0} (n : ℕ) (xs : List X) → n ≤ top n xs
top_least n [] = omega arith
top_least n (x ∷ xs) = omega arith

pub top_append : {X : Type 0} (n : ℕ) (xs ys : List X) → top n xs ≤ top n (xs ++ ys)
top_append n [] ys = top_least n ys
top_append n (x ∷ xs) ys = omega arith

pub some_none : {X Q : Type 0} (o : Option X) (x : X) → o ≡ Some x → o ≡ None → Q
some_none o x a b = absurd (cc)

pub true_false : {Q : Type 0} (b : Bool) → b ≡ true → b ≡ false → Q
true_false b x y = absurd (cc)

pub is_none : {X : Type 0} (o : Option X) → is_some o ≡ false → o ≡ None
is_none None e = refl
is_none (Some x) e = absurd (cc)

-- a changed function, at the number where it was changed and at another
pub at_split :
    {X : Type 0} (f : ℕ → X) (n : ℕ) (x : X) (m : ℕ) (Q : X → Type 0) → (n ≡ m → Q x) → ((n ≡ m → ⊥) → Q (f m))
    → Q (at f n x m)
at_split f n x m Q same apart = cond_both (nat_eq n m) x (f m) Q (λ e. same (eqb-true n m e)) (λ e. apart (eqb-false n m e))

-- two changed functions at one number
pub at_both :
    {X Y : Type 0} (f : ℕ → X) (h : ℕ → Y) (n : ℕ) (x : X) (y : Y) (m : ℕ) (Q : X → Y → Type 0) → (n ≡ m → Q x y)
    → ((n ≡ m → ⊥) → Q (f m) (h m)) → Q (at f n x m) (at h n y m)
at_both f h n x y m Q same apart = elim (cases_Bool (nat_eq n m)) [
  | inl t ↦ subst (λ b. Q (if b then x else f m) (if b then y else h m)) (sym t) (same (eqb-true n m t))
  | inr t ↦ subst (λ b. Q (if b then x else f m) (if b then y else h m)) (sym t) (apart (eqb-false n m t))
]

module _ {K V : Type 0} where
  pub peek_append : (n : ℕ) (xs ys : List (Change K V)) (o : Out K V) → peek n xs ≡ Some o → peek n (xs ++ ys) ≡ Some o
  peek_append n [] ys o e = absurd (cc)
  peek_append n (x ∷ xs) ys o e = e

  pub peek_sequence : (n : ℕ) (xs : List (Change K V)) (o : Out K V) → peek n xs ≡ Some o → o.sequence ≡ suc n
  peek_sequence n [] o e = absurd (cc)
  peek_sequence n (x ∷ xs) o e = ap (λ p. elim p as (λ _. ℕ) [ None ↦ n | Some u ↦ u.sequence ]) (sym e)

  pub peek_back :
      (n : ℕ) (xs ys : List (Change K V)) (o : Out K V) → peek n (xs ++ ys) ≡ Some o
      → (peek n xs ≡ Some o) ⊎ (top n xs ≡ n)
  peek_back n [] ys o e = inr refl
  peek_back n (x ∷ xs) ys o e = inl e

  pub peek_top : (n : ℕ) (xs : List (Change K V)) (o : Out K V) → peek n xs ≡ Some o → top n xs ≡ suc n
  peek_top n [] o e = absurd (cc)
  peek_top n (x ∷ xs) o e = refl

  pub peek_each :
      (P : Change K V → Type 0) (n : ℕ) (xs : List (Change K V)) (o : Out K V) → peek n xs ≡ Some o → Each P xs
      → P o.change
  peek_each P n [] o e h = absurd (cc)
  peek_each P n (x ∷ xs) o e h = subst P (ap (λ p. elim p as (λ _. Change K V) [ None ↦ x | Some u ↦ u.change ]) e) h.0

  pub out_parts : (s t : ℕ) (x y : Change K V) → Some (showing s x) ≡ Some (showing t y) → (s ≡ t) × (x ≡ y)
  out_parts s t x y e =
      (ap (λ p. elim p as (λ _. ℕ) [ None ↦ s | Some u ↦ u.sequence ]) e, ap (λ p. elim p as (λ _. Change K V) [ None ↦ x | Some u ↦ u.change ]) e)

module _ {K V C : Type 0} (I : Indexed K V C) where
  -- a change that is of no more use: its target's mark reached it, or its index is gone
  abbrev pub Spent : (ℕ → ℕ → ℕ) → C → ℕ → ℕ → Change K V → Type 0
  Spent mark c i s x = (s ≤ mark (I.cell_of x.key) i) ⊎ ((served I c x.index (I.item_of x.key) ≡ false) × (x.index ≤ I.drawn c))

  -- the outbox's first has this sequence, and is spent
  pub record FirstSpent (mark : ℕ → ℕ → ℕ) (c : C) (i n : ℕ) (xs : List (Change K V)) (s : ℕ) : Type 0 where
    pub change : Change K V
    pub is_first : peek n xs ≡ Some (showing s change)
    pub spent : Spent mark c i s change

  -- a change that waits in the outbox of its row's item, of an index that was drawn, and whose row was due once
  pub record Sound (c0 : C) (es : List (Event K V C)) (c : C) (i : ℕ) (x : Change K V) : Type 0 where
    pub home : I.cell_of (I.item_of x.key) ≡ i
    pub drawn : x.index ≤ I.drawn c
    pub seen : (r : V) → x.after ≡ Some r → WasDue I c0 es x.index x.key r

  pub record Kept (c0 : C) (es : List (Event K V C)) (f : Feed K V C) : Type 0 where
    -- every item that is there is listed
    pub listed : (k : K) → is_some (f.row k) ≡ true → list_any (λ x. I.same x k) (f.keys (I.cell_of k)) ≡ true
    -- and every index row
    pub rows_listed : (g : ℕ) (q : K) → is_some (f.shown g q) ≡ true → list_any (λ x. I.same x q) (f.row_keys (I.cell_of q)) ≡ true
    -- a row, after what waits in the outbox of its item, is as it should be
    pub due :
        (g : ℕ) (q : K) → served I f.catalog g (I.item_of q) ≡ true
        → overlay I (f.outbox (I.cell_of (I.item_of q))) g q (f.shown g q) ≡ due I f g q
    pub gone : (g : ℕ) (q : K) → served I f.catalog g (I.item_of q) ≡ false → f.shown g q ≡ None
    pub sound : (i : ℕ) → Each (Sound c0 es f.catalog i) (f.outbox i)
    pub shown : (g : ℕ) (q : K) (r : V) → f.shown g q ≡ Some r → WasDue I c0 es g q r
    -- no mark is past the outbox's first
    pub marks : (t i : ℕ) → f.mark t i ≤ top (f.sent i) (f.outbox i)
    -- where the first was applied, its row stands
    pub first :
        (i : ℕ) (o : Out K V) → out I f i ≡ Some o → o.sequence ≤ f.mark (I.cell_of o.change.key) i
        → served I f.catalog o.change.index (I.item_of o.change.key) ≡ true
        → f.shown o.change.index o.change.key ≡ o.change.after
    -- what was shown is still the first, or it was acknowledged and is spent
    pub peeked :
        (i s : ℕ) (x : Change K V) → WasPeeked I es i s x
        → (out I f i ≡ Some (showing s x)) ⊎ ((s ≤ f.sent i) × Spent f.mark f.catalog i s x)
    pub sent : (i s : ℕ) → WasSent I es i s → (s ≤ f.sent i) ⊎ FirstSpent f.mark f.catalog i (f.sent i) (f.outbox i) s

  pub older :
      (c0 : C) (es : List (Event K V C)) (e : Event K V C) (c : C) (i : ℕ) (xs : List (Change K V))
      → Each (Sound c0 es c i) xs → Each (Sound c0 (e ∷ es) c i) xs
  older c0 es e c i xs h = each_weaker (Sound c0 es c i) (Sound c0 (e ∷ es) c i) xs (λ x s. record { home = s.home; drawn = s.drawn; seen = λ r w. inr (s.seen r w) }) h

  -- an event that changes nothing
  pub still :
      (c0 : C) (es : List (Event K V C)) (e : Event K V C) (f : Feed K V C) → Kept c0 es f
      → ((i s : ℕ) (x : Change K V) → WasPeeked I (e ∷ es) i s x → (out I f i ≡ Some (showing s x)) ⊎ ((s ≤ f.sent i) × Spent f.mark f.catalog i s x))
      → ((i s : ℕ) → WasSent I (e ∷ es) i s → (s ≤ f.sent i) ⊎ FirstSpent f.mark f.catalog i (f.sent i) (f.outbox i) s)
      → Kept c0 (e ∷ es) f
  still c0 es e f k peeked sent =
      record {
        listed = k.listed;
        rows_listed = k.rows_listed;
        due = k.due;
        gone = k.gone;
        sound = λ i. older c0 es e f.catalog i (f.outbox i) (k.sound i);
        shown = λ g q r h. inr (k.shown g q r h);
        marks = k.marks;
        first = k.first;
        peeked = peeked;
        sent = sent;
      }

  module _ (law : IsLawful I) where
    -- an Ack that takes the first away
    pub popped :
        (c0 : C) (es : List (Event K V C)) (f : Feed K V C) (i s : ℕ) (c : Change K V) (cs : List (Change K V))
        → f.outbox i ≡ c ∷ cs → s ≡ suc (f.sent i) → Kept c0 es f → WasSent I es i s
        → Kept c0 (Acks i s ∷ es) (record f { sent = at f.sent i s; outbox = at f.outbox i cs })
    popped c0 es f i s c cs is t k was =
        let now : out I f i ≡ Some (showing s c) = ap (λ xs. peek (f.sent i) xs) is ∙ ap (λ n. Some (showing n c)) (sym t) in
        let spent : Spent f.mark f.catalog i s c =
        elim (k.sent i s was) [
          | inl below ↦ absurd (omega arith)
          | inr w ↦ subst (λ x. Spent f.mark f.catalog i s x) (out_parts s s w.change c (sym w.is_first ∙ now)).1 w.spent
        ]
        in
        let marked : (u : ℕ) → f.mark u i ≤ s = λ u. subst (λ n. f.mark u i ≤ n) (peek_top (f.sent i) (f.outbox i) (showing s c) now ∙ sym t) (k.marks u i) in
        record {
          listed = k.listed;
          rows_listed = k.rows_listed;
          due = λ g q sv.
              at_split f.outbox i cs (I.cell_of (I.item_of q)) (λ ys. overlay I ys g q (f.shown g q) ≡ due I f g q)
              (λ m. ap (λ y. overlay I cs g q y)
              (cond_both (is_at I c g q) c.after (f.shown g q) (λ y. f.shown g q ≡ y)
              (λ a. let p = at_is I law c g q a in
              let sc : served I f.catalog c.index (I.item_of c.key) ≡ true = subst (λ y. served I f.catalog c.index (I.item_of y) ≡ true) (sym p.1) (subst (λ h. served I f.catalog h (I.item_of q) ≡ true) (sym p.0) sv) in
              subst (λ h. f.shown h q ≡ c.after) p.0 (subst (λ y. f.shown c.index y ≡ c.after) p.1
              (elim spent [
                | inl reached ↦ k.first i (showing s c) now reached sc
                | inr lost ↦ true_false (served I f.catalog c.index (I.item_of c.key)) sc lost.0
              ])))
              (λ _. refl))
              ∙ subst (λ ys. overlay I ys g q (f.shown g q) ≡ due I f g q) is (subst (λ j. overlay I (f.outbox j) g q (f.shown g q) ≡ due I f g q) (sym m) (k.due g q sv)))
              (λ _. k.due g q sv);
          gone = k.gone;
          sound = λ j.
              at_split f.outbox i cs j (λ ys. Each (Sound c0 (Acks i s ∷ es) f.catalog j) ys)
              (λ m. (subst (λ ys. Each (Sound c0 (Acks i s ∷ es) f.catalog j) ys) (ap f.outbox (sym m) ∙ is) (older c0 es (Acks i s) f.catalog j (f.outbox j) (k.sound j))).1)
              (λ _. older c0 es (Acks i s) f.catalog j (f.outbox j) (k.sound j));
          shown = λ g q r h. inr (k.shown g q r h);
          marks = λ u j.
              at_both f.sent f.outbox i s cs j (λ n ys. f.mark u j ≤ top n ys)
              (λ m. let a = top_least s cs in let b = subst (λ z. f.mark u z ≤ s) m (marked u) in omega arith) (λ _. k.marks u j);
          first = λ j o.
              at_both f.sent f.outbox i s cs j (λ n ys. peek n ys ≡ Some o → o.sequence ≤ f.mark (I.cell_of o.change.key) j → served I f.catalog o.change.index (I.item_of o.change.key) ≡ true → f.shown o.change.index o.change.key ≡ o.change.after)
              (λ m p below sv. let a = peek_sequence s cs o p in let b = subst (λ z. f.mark (I.cell_of o.change.key) z ≤ s) m (marked (I.cell_of o.change.key)) in absurd (omega arith))
              (λ _. k.first j o);
          peeked = λ j u x w.
              at_both f.sent f.outbox i s cs j (λ n ys. (peek n ys ≡ Some (showing u x)) ⊎ ((u ≤ n) × Spent f.mark f.catalog j u x))
              (λ m. subst (λ z. (peek s cs ≡ Some (showing u x)) ⊎ ((u ≤ s) × Spent f.mark f.catalog z u x)) m
              (elim (k.peeked i u x (subst (λ z. WasPeeked I es z u x) (sym m) w)) [
                | inl here ↦ let p = out_parts s u c x (sym now ∙ here) in
                    inr (omega (arith, p.0), subst (λ y. Spent f.mark f.catalog i u y) p.1 (subst (λ v. Spent f.mark f.catalog i v c) p.0 spent))
                | inr h ↦ inr (omega (arith, h.0), h.1)
              ]))
              (λ _. k.peeked j u x w);
          sent = λ j u w.
              at_both f.sent f.outbox i s cs j (λ n ys. (u ≤ n) ⊎ FirstSpent f.mark f.catalog j n ys u)
              (λ m. elim (k.sent i u (subst (λ z. WasSent I es z u) (sym m) w)) [
                | inl below ↦ inl (omega arith)
                | inr h ↦ inl (let p = out_parts s u c h.change (sym now ∙ h.is_first) in omega (arith, p.0))
              ])
              (λ _. k.sent j u w);
        }
