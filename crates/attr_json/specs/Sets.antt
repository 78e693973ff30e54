-- Sets from their elements.
use Rattle.std.specs.Prelude.{◌≡◌, List, [], ◌∷◌, Option, Some, None, option_map, option_and_then, Result, Ok, Err}
use Rattle.std.specs.declared.cmp.Ordering.{Ordering}
use Rattle.std.specs.declared.cmp.Ordering.TheVariants.{Equal}
use Rattle.std.specs.Ordering.{match_ordering}
use Rattle.attr_value.specs.declared.fault.ValueFault.TheVariants.{EmptySet, DuplicateInSet}
use Rattle.attr_json.specs.declared.fault.JsonFault.{JsonFault}
use Rattle.attr_json.specs.declared.fault.JsonFault.TheVariants.{BadSet}

-- elements in order with one more in its place; nothing where it is there already
abbrev pub with_element : {A : Type 0} → (A → A → Ordering) → A → List A → Option (List A)
with_element cmp x [] = Some (x ∷ [])
with_element cmp x (y ∷ ys) = match_ordering (cmp x y) (Some (x ∷ y ∷ ys)) None (option_map (λ zs. y ∷ zs) (with_element cmp x ys))

-- the elements in order; nothing where one is there twice
abbrev pub in_order : {A : Type 0} → (A → A → Ordering) → List A → Option (List A)
in_order cmp [] = Some []
in_order cmp (x ∷ xs) = option_and_then (with_element cmp x) (in_order cmp xs)

abbrev pub unless_twice : {A : Type 0} → Option (List A) → Result (List A) JsonFault
unless_twice None = Err (BadSet DuplicateInSet)
unless_twice (Some xs) = Ok xs

-- the set of these elements
abbrev pub set_of : {A : Type 0} → (A → A → Ordering) → List A → Result (List A) JsonFault
set_of cmp [] = Err (BadSet EmptySet)
set_of cmp (x ∷ xs) = unless_twice (in_order cmp (x ∷ xs))

-- of an order: what ties is equal
abbrev pub IsExact : {A : Type 0} → (A → A → Ordering) → Type 0
IsExact {A} cmp = (x y : A) → cmp x y ≡ Equal → x ≡ y
