-- What ADD and DELETE make of what a path finds.
use Rattle.std.specs.Prelude.{◌+ℤ◌, List, [], ◌∷◌, filter, not, Option, Some, None, Ok, Err}
use Rattle.std.specs.Cmp.Lexicographic.{slice_cmp}
use Rattle.std.specs.Ordering.{nat_cmp, int_cmp}
use Rattle.std.specs.declared.cmp.Ordering.{Ordering}
use Rattle.number38.specs.Number.{fitted}
use Rattle.ordered_set.specs.Sets.{has}
use Rattle.attr_value.specs.Tree.{Tree, number, text_set, number_set, binary_set}
use Rattle.item_writes.specs.Union.{united}
use Rattle.update_eval.specs.Answers.{Answer}
use Rattle.update_eval.specs.Sums.{number_of}
use Rattle.update_eval.specs.declared.fault.EvalFault.TheVariants.{OperandType}

-- what ADD puts where nothing is: a number or a set
abbrev pub first_added : Tree → Answer Tree
first_added (number z) = Ok (number z)
first_added (text_set s) = Ok (text_set s)
first_added (number_set s) = Ok (number_set s)
first_added (binary_set s) = Ok (binary_set s)
first_added _ = Err OperandType

-- what it puts where something is: the sum of two numbers, or the elements of two sets of one kind
abbrev pub more_of : Tree → Tree → Answer Tree
more_of (number x) (number y) = number_of (fitted (x +ℤ y))
more_of (text_set s) (text_set u) = Ok (text_set (united (slice_cmp nat_cmp) s u))
more_of (number_set s) (number_set u) = Ok (number_set (united int_cmp s u))
more_of (binary_set s) (binary_set u) = Ok (binary_set (united (slice_cmp nat_cmp) s u))
more_of _ _ = Err OperandType

abbrev pub add_of : Option Tree → Tree → Answer Tree
add_of None value = first_added value
add_of (Some t) value = more_of t value

-- the elements of the first set that the second has not
abbrev pub lessened : {A : Type 0} → (A → A → Ordering) → List A → List A → List A
lessened cmp xs ys = filter (λ x. not (has cmp x ys)) xs

-- a set, or nothing where no element is left
abbrev pub some_set : {A : Type 0} → (List A → Tree) → List A → Option Tree
some_set kind [] = None
some_set kind (x ∷ xs) = Some (kind (x ∷ xs))

-- what DELETE leaves of a set
abbrev pub less_of : Tree → Tree → Answer (Option Tree)
less_of (text_set s) (text_set u) = Ok (some_set text_set (lessened (slice_cmp nat_cmp) s u))
less_of (number_set s) (number_set u) = Ok (some_set number_set (lessened int_cmp s u))
less_of (binary_set s) (binary_set u) = Ok (some_set binary_set (lessened (slice_cmp nat_cmp) s u))
less_of _ _ = Err OperandType
