-- A small instance, so that the demands can be met, and worked lists of events: each is computed.
use Rattle.std.proofs.Common.{◌≡◌, inl, inr, ℕ, ◌≤◌, Bool, true, false, ◌&&◌, ◌||◌, nat_eq, List, [], ◌∷◌, Option, None, Some, if◌then◌else◌, refl, sym, ap, ◌∙◌, arith}
use Rattle.std.specs.Prelude.{suc}
use Rattle.std.specs.Cmp.{nat_cmp_is}
use Rattle.std.specs.Ordering.{is_eq, ordering_then}
use Rattle.std.specs.declared.cmp.Ordering.{Ordering}
use Rattle.std.proofs.Common.{nat_cmp, Less, Equal, Greater}
use Rattle.std.proofs.lemmas.Cmp.{then_total, on_total, nat_cmp_total}
use Rattle.std.proofs.lemmas.Bool.{cases_Bool, cases_lt, ne_eqb, eqb-false, and_parts, and_from, eqb-true, eq-eqb}
use Rattle.index_feed.specs.declared.change.Row.{Row}
use Rattle.index_feed.specs.declared.change.Change.{Change}
use Rattle.index_feed.specs.Feed.{Indexed, Event, Sets, Commands, Peeks, Feeds, Acks, showing, served, fed, feed, due, IsLegal, IsLawful}

-- an item by its number, or its row under a value
pub data Key : Type 0 where
  Item : ℕ → Key
  Under : ℕ → ℕ → Key

abbrev same : Key → Key → Bool
same (Item n) (Item m) = nat_eq n m
same (Under v n) (Under w m) = nat_eq v w && nat_eq n m
same _ _ = false

-- items come first, then rows by their value
abbrev group : Key → ℕ
group (Item n) = 0
group (Under v n) = suc v

abbrev number : Key → ℕ
number (Item n) = n
number (Under v n) = n

abbrev cmp : Key → Key → Ordering
cmp x y = ordering_then (nat_cmp (group x) (group y)) (nat_cmp (number x) (number y))

abbrev cell_of : Key → ℕ
cell_of (Item n) = 0
cell_of (Under v n) = v

abbrev item_of : Key → Key
item_of (Item n) = Item n
item_of (Under v n) = Item n

-- the catalog is how many indexes were drawn; the last one is there. A value below 9 has a row under it
abbrev row_of : ℕ → ℕ → Key → ℕ → Option (Row Key ℕ)
row_of c g (Item n) v = Some (record { key = Under v n; content = v })
row_of c g (Under w n) v = None

abbrev little : Indexed Key ℕ ℕ
little =
    record {
      same = same;
      cmp = cmp;
      equal = nat_eq;
      cell_of = cell_of;
      item_of = item_of;
      indexes = λ c k. c ∷ [];
      row_of = row_of;
      drawn = λ c. c;
    }

itself : (x : Key) → same x x ≡ true
itself (Item n) = eq-eqb n n refl
itself (Under v n) = and_from (nat_eq v v) (nat_eq n n) (eq-eqb v v refl) (eq-eqb n n refl)

exact : (x y : Key) → same x y ≡ true → x ≡ y
exact (Item n) (Item m) e = ap (λ z. Item z) (eqb-true n m e)
exact (Under v n) (Under w m) e = let p = and_parts (nat_eq v w) (nat_eq n m) e in ap (λ z. Under z n) (eqb-true v w p.0) ∙ ap (λ z. Under w z) (eqb-true n m p.1)
exact (Item n) (Under w m) e = absurd (cc)
exact (Under v n) (Item m) e = absurd (cc)

its_item : (c g : ℕ) (k : Key) (v : ℕ) (r : Row Key ℕ) → row_of c g k v ≡ Some r → item_of r.key ≡ k
its_item c g (Item n) v r e = ap (λ o. elim o as (λ _. Key) [ None ↦ Item n | Some x ↦ item_of x.key ]) (sym e)
its_item c g (Under w n) v r e = absurd (cc)

alone : (b : Bool) → (b || false) ≡ true → b ≡ true
alone true e = refl
alone false e = e

drawn_only : (c g : ℕ) (k : Key) → served little c g k ≡ true → g ≤ c
drawn_only c g k e = let b = eqb-true c g (alone (nat_eq c g) e) in omega (arith, b)

equal_or :
    (o : Ordering) (b : Bool) → is_eq o ≡ b → (p : Ordering) (d : Bool) → is_eq p ≡ d
    → is_eq (ordering_then o p) ≡ (b && d)
equal_or Less b e p d f = ap (λ z. z && d) e
equal_or Greater b e p d f = ap (λ z. z && d) e
equal_or Equal b e p d f = f ∙ ap (λ z. z && d) e

eq_suc : (v w : ℕ) → nat_eq (suc v) (suc w) ≡ nat_eq v w
eq_suc v w = elim (cases_Bool (nat_eq v w)) [
  | inl t ↦ let e = eqb-true v w t in eq-eqb (suc v) (suc w) (ap (λ n. suc n) e) ∙ sym t
  | inr f ↦ let n = eqb-false v w f in ne_eqb (suc v) (suc w) (λ e. n (omega arith)) ∙ sym f
]

eq_cmp : (n m : ℕ) → nat_eq n m ≡ is_eq (nat_cmp n m)
eq_cmp n m =
    elim (cases_lt n m) [
      | inl lt ↦ ne_eqb n m (λ e. omega arith) ∙ ap (λ o. is_eq o) (nat_cmp_is n m Less lt)
      | inr ge ↦ elim (cases_lt m n) [
        | inl gt ↦ ne_eqb n m (λ e. omega arith) ∙ ap (λ o. is_eq o) (nat_cmp_is n m Greater gt)
        | inr le ↦ let e : n ≡ m = omega arith in eq-eqb n m e ∙ ap (λ o. is_eq o) (nat_cmp_is n m Equal e)
      ]
    ]

one_key : (x y : Key) → same x y ≡ is_eq (cmp x y)
one_key (Item n) (Item m) = sym (equal_or (nat_cmp 0 0) true refl (nat_cmp n m) (nat_eq n m) (sym (eq_cmp n m)))
one_key (Under v n) (Under w m) =
    sym (equal_or (nat_cmp (suc v) (suc w)) (nat_eq v w) (sym (eq_cmp (suc v) (suc w)) ∙ eq_suc v w) (nat_cmp n m) (nat_eq n m) (sym (eq_cmp n m)))
one_key (Item n) (Under w m) = sym (equal_or (nat_cmp 0 (suc w)) false (ap (λ o. is_eq o) (sym (nat_cmp_is 0 (suc w) Less (omega arith)))) (nat_cmp n m) (nat_eq n m) (sym (eq_cmp n m)))
one_key (Under v n) (Item m) = sym (equal_or (nat_cmp (suc v) 0) false (ap (λ o. is_eq o) (sym (nat_cmp_is (suc v) 0 Greater (omega arith)))) (nat_cmp n m) (nat_eq n m) (sym (eq_cmp n m)))

pub lawful : IsLawful little
lawful =
    record {
      itself = itself;
      exact = exact;
      exact_rows = λ v w e. eqb-true v w e;
      its_item = its_item;
      known = drawn_only;
      ordered = then_total (on_total group nat_cmp_total) (on_total number nat_cmp_total);
      one = one_key;
      rising = λ c k i h. absurd (omega arith);
    }

-- item 5 holds 1, then 2: its row moves from cell 1 to cell 2. The first ApplyIndex comes again at the end, late, at
-- cell 1, whose mark has it: the row that was removed doesn't come back
abbrev one : Change Key ℕ
one = record { index = 1; key = Under 1 5; after = Some 1 }

abbrev two : Change Key ℕ
two = record { index = 1; key = Under 1 5; after = None }

abbrev three : Change Key ℕ
three = record { index = 1; key = Under 2 5; after = Some 2 }

abbrev late : List (Event Key ℕ ℕ)
late =
    Feeds 0 1 one ∷ Acks 0 3 ∷ Feeds 0 3 three ∷ Peeks 0 (Some (showing 3 three)) ∷ Acks 0 2 ∷ Feeds 0 2 two ∷ Peeks 0 (Some (showing 2 two)) ∷ Acks 0 1
    ∷ Feeds 0 1 one ∷ Peeks 0 (Some (showing 1 one)) ∷ Sets (Item 5) (Some 2) ∷ Sets (Item 5) (Some 1) ∷ []

late_is_legal : IsLegal little 1 late
late_is_legal =
    ((((((((((((tt, tt), tt), refl), inl (refl, refl)), inl (refl, refl)), refl), inl (refl, refl)), inl (refl, refl)), refl), inl (refl, refl)), inl (refl, refl)), inr (inr (inl (refl, refl))))

late_row : (feed little 1 late).shown 1 (Under 1 5) ≡ None
late_row = refl

late_new_row : (feed little 1 late).shown 1 (Under 2 5) ≡ Some 2
late_new_row = refl

all_drained : (feed little 1 late).outbox 0 ≡ []
all_drained = refl

-- without the mark the late one would bring the removed row back
without_marks : (fed little (feed little 1 late) 0 1 one).shown 1 (Under 1 5) ≡ Some 1
without_marks = refl

-- and a mark of the whole source at another cell would not do: cell 2's mark is 3, cell 1's is 2
marks_apart : (feed little 1 late).mark 1 0 ≡ 2
marks_apart = refl

-- a catalog command that brings index 2 (index 1 goes): a change of index 1 that still waits is Already, and leaves; the
-- rows of index 2 come by the outbox
abbrev replaced : List (Event Key ℕ ℕ)
replaced = Feeds 0 1 one ∷ Peeks 0 (Some (showing 1 one)) ∷ Commands 2 [] (λ k. if same (Item 5) k then Some 1 else None) ∷ Sets (Item 5) (Some 1) ∷ []

gone_is_already : (feed little 1 replaced).shown 1 (Under 1 5) ≡ None
gone_is_already = refl

gone_leaves_the_mark : (feed little 1 replaced).mark 1 0 ≡ 0
gone_leaves_the_mark = refl

new_one_waits : (feed little 1 replaced).outbox 0 ≡ one ∷ record { index = 2; key = Under 1 5; after = Some 1 } ∷ []
new_one_waits = refl

-- were an Ack allowed without its ApplyIndex, the row would be lost: the outbox is empty, and the index has no row
abbrev unfed : List (Event Key ℕ ℕ)
unfed = Acks 0 1 ∷ Peeks 0 (Some (showing 1 one)) ∷ Sets (Item 5) (Some 1) ∷ []

unfed_is_drained : (feed little 1 unfed).outbox 0 ≡ []
unfed_is_drained = refl

unfed_is_lost : ((feed little 1 unfed).shown 1 (Under 1 5) ≡ None) × (due little (feed little 1 unfed) 1 (Under 1 5) ≡ Some 1)
unfed_is_lost = (refl, refl)

unfed_is_not_legal : IsLegal little 1 unfed → ⊥
unfed_is_not_legal h = elim h.1 [ ]
