-- What tests ask, and of which values.
use Rattle.std.specs.Prelude.{ℕ, List, [], ◌++◌, Bool, true, false, ◌&&◌, ◌||◌, not, nat_eq, nat_le, Option, Some, unwrap_or, bytes_eq, if◌then◌else◌}
use Rattle.std.specs.List.{flat_map}
use Rattle.std.specs.Option.{option_to_list, is_some}
use Rattle.attr_value.specs.declared.value.Value.{Value}
use Rattle.expr_words.specs.Grammar.{most_choices}
use Rattle.expr_words.specs.declared.tree.Comparison.TheVariants.{Equal, Unequal}
use Rattle.legacy_params.specs.declared.part.LegacyTest.{LegacyTest}
use Rattle.legacy_params.specs.declared.operator.Operator.{Operator}
use Rattle.legacy_params.specs.declared.operator.Operator.TheVariants.{Compare, Exists, Absent, Contains, NotContains, BeginsWith, Among, Between}
use Rattle.legacy_params.specs.Operators.{operator_named}

-- the values of a test: Value, then AttributeValueList
abbrev pub values_of : LegacyTest → List Value
values_of t = option_to_list t.value ++ t.values

-- those of all tests
abbrev pub test_values : List LegacyTest → List Value
test_values = flat_map values_of

-- the operator of a test that gives none
abbrev pub implied : Option Bool → Operator
implied (Some false) = Absent
implied exists = Compare Equal

-- what a test asks; None where its operator is unknown
abbrev pub operator_of : LegacyTest → Option Operator
operator_of t = if bytes_eq t.operator [] then Some (implied t.exists) else operator_named t.operator

-- the same, where an unknown operator is a fault whatever stands here in its place
abbrev pub asked : LegacyTest → Operator
asked t = unwrap_or (operator_of t) (Compare Equal)

-- whether an operator takes so many values
abbrev pub takes : Operator → ℕ → Bool
takes (Compare op) n = nat_eq n 1
takes Exists n = nat_eq n 0
takes Absent n = nat_eq n 0
takes Contains n = nat_eq n 1
takes NotContains n = nat_eq n 1
takes BeginsWith n = nat_eq n 1
takes Among n = nat_le 1 n && nat_le n most_choices
takes Between n = nat_eq n 2

-- whether a test of a key may have it
abbrev pub is_for_keys : Operator → Bool
is_for_keys (Compare Unequal) = false
is_for_keys (Compare op) = true
is_for_keys BeginsWith = true
is_for_keys Between = true
is_for_keys op = false

-- whether a test gives an operator, and Value or Exists too
abbrev pub has_two_forms : LegacyTest → Bool
has_two_forms t = not (bytes_eq t.operator []) && (is_some t.value || is_some t.exists)
