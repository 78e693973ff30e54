-- What a key condition asks (Developer Guide: Key condition expressions). Values stand in it by their places.
use Rattle.std.specs.Prelude.{ℕ, List, [], ◌∷◌, Bool, true, false, ◌||◌, bytes_eq, if◌then◌else◌}
use Rattle.std.specs.Prelude.{Option, Some, None, is_some, option_and_then}
use Rattle.base_types.specs.declared.path.Step.{Step}
use Rattle.base_types.specs.declared.path.Step.TheVariants.{Name}
use Rattle.expr_words.specs.declared.tree.Comparison.{Comparison}
use Rattle.expr_words.specs.declared.tree.Comparison.TheVariants.{Equal, Unequal, Less, AtMost, More, AtLeast}
use Rattle.expr_words.specs.declared.tree.Operand.TheVariants.{Path, Value}
use Rattle.expr_words.specs.Trees.{Tree, Conjunction, Compared, Range, FrontTest}
use Rattle.table_schema.specs.declared.keys.KeyNames.{KeyNames}
use Rattle.key_condition.specs.declared.asked.End.{End}
use Rattle.key_condition.specs.declared.asked.End.TheVariants.{Open, At, Past, BeforePrefixEnd}
use Rattle.key_condition.specs.declared.asked.Ends.{Ends}
use Rattle.key_condition.specs.declared.asked.Asked.{Asked}

-- the path is the attribute of this name
abbrev pub is_attribute : List ℕ → List Step → Bool
is_attribute name (Name step ∷ []) = bytes_eq step name
is_attribute name _ = false

-- the place of the value that the attribute is to equal, where the condition is such an equality
abbrev pub equality : List ℕ → Tree → Option ℕ
equality name (Compared Equal (Path path) (Value place)) = if is_attribute name path.steps then Some place else None
equality name _ = None

abbrev pub between : End → End → Ends
between low high = record { low = low; high = high }

-- the values that compare so to the one at a place lie between these ends
abbrev pub compared_ends : Comparison → ℕ → Option Ends
compared_ends Equal place = Some (between (At place) (At place))
compared_ends Unequal place = None
compared_ends Less place = Some (between Open (Past place))
compared_ends AtMost place = Some (between Open (At place))
compared_ends More place = Some (between (Past place) Open)
compared_ends AtLeast place = Some (between (At place) Open)

-- the ends that a test of the attribute sets, where it is one that a sort key may have
abbrev pub ends_on : List ℕ → Tree → Option Ends
ends_on name (Compared op (Path path) (Value place)) =
    if is_attribute name path.steps then compared_ends op place else None
ends_on name (Range (Path path) (Value low) (Value high)) =
    if is_attribute name path.steps then Some (between (At low) (At high)) else None
ends_on name (FrontTest (Path path) (Value front)) =
    if is_attribute name path.steps then Some (between (At front) (BeforePrefixEnd front)) else None
ends_on name _ = None

abbrev pub asking : Bool → Option ℕ → Option Ends → Option Asked
asking sort_first (Some place) (Some ends) = Some (record { partition = place; sort = ends; sort_first = sort_first })
asking sort_first _ _ = None

-- an equality of the partition key and a test of the sort key
abbrev pub joined : KeyNames → Bool → Tree → Tree → Option Asked
joined keys sort_first partition sort =
    asking sort_first (equality keys.partition partition) (option_and_then (λ name. ends_on name sort) keys.sort)

abbrev pub or_else : {A : Type 0} → Option A → Option A → Option A
or_else (Some first) second = Some first
or_else None second = second

-- two conditions joined by AND, in either order
abbrev pub asked_by_two : KeyNames → Tree → Option Asked
asked_by_two keys (Conjunction a b) = or_else (joined keys false a b) (joined keys true b a)
asked_by_two keys _ = None

-- what the condition asks of a key with these names, where it is a key condition
unfoldable pub asked : KeyNames → Tree → Option Asked
asked keys t = or_else (asking false (equality keys.partition t) (Some (between Open Open))) (asked_by_two keys t)

-- one of the conditions that AND joins is an equality of the attribute with a value
abbrev pub has_equality : List ℕ → Tree → Bool
has_equality name (Conjunction a b) = has_equality name a || has_equality name b
has_equality name t = is_some (equality name t)
