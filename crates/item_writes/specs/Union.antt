-- The elements of lists in order, each once.
use Rattle.std.specs.Prelude.{List, [], ◌∷◌, ◌++◌}
use Rattle.std.specs.Ordering.{match_ordering}
use Rattle.std.specs.declared.cmp.Ordering.{Ordering}

-- the element at its place in a list in order, where none there ties with it
abbrev pub put_in : {A : Type 0} → (A → A → Ordering) → A → List A → List A
put_in cmp x [] = x ∷ []
put_in cmp x (y ∷ ys) = match_ordering (cmp x y) (x ∷ y ∷ ys) (y ∷ ys) (y ∷ put_in cmp x ys)

-- the elements in order
abbrev pub in_order : {A : Type 0} → (A → A → Ordering) → List A → List A
in_order cmp [] = []
in_order cmp (x ∷ xs) = put_in cmp x (in_order cmp xs)

-- the elements of both sets in order
abbrev pub united : {A : Type 0} → (A → A → Ordering) → List A → List A → List A
united cmp xs ys = in_order cmp (xs ++ ys)
