-- The rows of a range, walked in place of those that pass a test.
use Rattle.std.specs.Prelude.{filter, map, reverse, option_map}
use Rattle.std.specs.List.{AllByRecursion}
use Rattle.std.specs.Ordering.{is_lt}
use Rattle.std.specs.declared.cmp.Ordering.{Ordering}
use Rattle.std.proofs.Common.{◌≡◌, Bool, true, false, cond, List, [], ◌∷◌, ◌++◌, Option, None, Some, refl, ap, sym, ◌∙◌}
use Rattle.std.proofs.lemmas.List.{map-append}
use Rattle.paging.specs.Rows.{in_direction, walk_order, rows_after}
use Rattle.paging.proofs.Ordered.{reverse_cons}

-- where two tests agree at each element they keep the same
pub filter_same : {X : Type 0} (p q : X → Bool) (xs : List X) → AllByRecursion (λ x. p x ≡ q x) xs → filter p xs ≡ filter q xs
filter_same p q [] all = refl
filter_same p q (x ∷ xs) all = λ i. cond (all.0 i) (x ∷ filter_same p q xs all.1 i) (filter_same p q xs all.1 i)

-- what is kept of what is made of elements is made of the elements that are kept
pub filter_made : {X Y : Type 0} (make : X → Y) (q : Y → Bool) (xs : List X) → filter q (map make xs) ≡ map make (filter (λ x. q (make x)) xs)
filter_made make q [] = refl
filter_made make q (x ∷ xs) = go (q (make x)) (filter_made make q xs)
  where
    go : (b : Bool) → filter q (map make xs) ≡ map make (filter (λ x. q (make x)) xs)
        → cond b (make x ∷ filter q (map make xs)) (filter q (map make xs)) ≡ map make (cond b (x ∷ filter (λ x. q (make x)) xs) (filter (λ x. q (make x)) xs))
    go true same = ap (λ l. make x ∷ l) same
    go false same = same

reverse_made : {X Y : Type 0} (make : X → Y) (xs : List X) → reverse (map make xs) ≡ map make (reverse xs)
reverse_made make [] = refl
reverse_made make (x ∷ xs) =
    reverse_cons (make x) (map make xs) ∙ ap (λ l. l ++ make x ∷ []) (reverse_made make xs)
    ∙ sym (map-append make (reverse xs) (x ∷ [])) ∙ ap (map make) (sym (reverse_cons x xs))

direction_made : {X Y : Type 0} (make : X → Y) (forward : Bool) (xs : List X) → in_direction forward (map make xs) ≡ map make (in_direction forward xs)
direction_made make true xs = refl
direction_made make false xs = reverse_made make xs

all_same : {X : Type 0} (p q : X → Bool) → ((x : X) → p x ≡ q x) → (xs : List X) → AllByRecursion (λ x. p x ≡ q x) xs
all_same p q same [] = tt
all_same p q same (x ∷ xs) = (same x, all_same p q same xs)

-- rows at places, and the same with other places that stand in the same order
module _ {K P X Y : Type 0} (cmp : K → K → Ordering) (order : P → P → Ordering) (at : K → P) (make : K × X → Y)
    (alike : (k l : K) → is_lt (order (at k) (at l)) ≡ is_lt (cmp k l)) where
  abbrev pub moved : K × X → P × Y
  moved row = (at row.0, make row)

  towards : (forward : Bool) (k l : K) → is_lt (walk_order order forward (at k) (at l)) ≡ is_lt (walk_order cmp forward k l)
  towards true k l = alike k l
  towards false k l = alike l k

  -- the rows after a place, with the other places
  pub after_moved : (forward : Bool) (after : Option K) (rows : List (K × X))
      → rows_after order forward (option_map at after) (map moved rows) ≡ map moved (rows_after cmp forward after rows)
  after_moved forward None rows = direction_made moved forward rows
  after_moved forward (Some k) rows =
      let test : P × Y → Bool = λ row. is_lt (walk_order order forward (at k) row.0) in
      ap (filter test) (direction_made moved forward rows)
      ∙ filter_made moved test (in_direction forward rows)
      ∙ ap (map moved)
      (filter_same (λ row. test (moved row)) (λ row. is_lt (walk_order cmp forward k row.0)) (in_direction forward rows)
      (all_same (λ row. test (moved row)) (λ row. is_lt (walk_order cmp forward k row.0)) (λ row. towards forward k row.0) (in_direction forward rows)))
