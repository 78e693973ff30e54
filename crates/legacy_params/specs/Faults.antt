-- What is wrong with legacy parameters: of all faults the one with the least number.
use Rattle.std.specs.Prelude.{ℕ, List, [], ◌∷◌, length, Bool, true, false, ◌&&◌, not, nat_le, Option, None, Some, if◌then◌else◌}
use Rattle.attr_value.specs.declared.value.Value.{Value}
use Rattle.legacy_params.specs.declared.fault.LegacyFault.{LegacyFault}
use Rattle.legacy_params.specs.declared.fault.LegacyFault.TheVariants.{Mixed, BadOperator, BadCount, TwoForms, NoAttributes}
use Rattle.legacy_params.specs.declared.part.LegacyTest.{LegacyTest}
use Rattle.legacy_params.specs.declared.part.LegacyChange.{LegacyChange}
use Rattle.legacy_params.specs.declared.operator.Operator.{Operator}
use Rattle.legacy_params.specs.declared.operator.Action.{Action}
use Rattle.legacy_params.specs.declared.operator.Action.TheVariants.{Delete}
use Rattle.legacy_params.specs.Operators.{action_named}
use Rattle.legacy_params.specs.Tests.{values_of, operator_of, takes, is_for_keys, has_two_forms}

abbrev pub number : LegacyFault → ℕ
number Mixed = 1
number BadOperator = 2
number BadCount = 3
number TwoForms = 4
number NoAttributes = 5

-- of two the one with the lesser number
abbrev pub least : Option LegacyFault → Option LegacyFault → Option LegacyFault
least None other = other
least (Some fault) None = Some fault
least (Some fault) (Some other) = if nat_le (number fault) (number other) then Some fault else Some other

-- the fault of a test whose operator is known
abbrev pub fault_by : Operator → Bool → LegacyTest → Option LegacyFault
fault_by op for_keys t =
    if for_keys && not (is_for_keys op) then Some BadOperator
    else (if not (takes op (length (values_of t))) then Some BadCount
    else (if has_two_forms t then Some TwoForms
    else None))

abbrev pub fault_if_known : Option Operator → Bool → LegacyTest → Option LegacyFault
fault_if_known None for_keys t = Some BadOperator
fault_if_known (Some op) for_keys t = fault_by op for_keys t

abbrev pub fault_of : Bool → LegacyTest → Option LegacyFault
fault_of for_keys t = fault_if_known (operator_of t) for_keys t

abbrev pub faults_of : Bool → List LegacyTest → Option LegacyFault
faults_of for_keys [] = None
faults_of for_keys (t ∷ ts) = least (fault_of for_keys t) (faults_of for_keys ts)

-- of the tests of a condition or a filter, and of those of a key condition
abbrev pub tests_fault : List LegacyTest → Option LegacyFault
tests_fault = faults_of false

abbrev pub keys_fault : List LegacyTest → Option LegacyFault
keys_fault = faults_of true

-- an action takes one value, DELETE one or none
abbrev pub fault_with : Option Action → Option Value → Option LegacyFault
fault_with None value = Some BadOperator
fault_with (Some Delete) value = None
fault_with (Some action) None = Some BadCount
fault_with (Some action) (Some value) = None

abbrev pub change_fault : LegacyChange → Option LegacyFault
change_fault c = fault_with (action_named c.action) c.value

abbrev pub changes_fault : List LegacyChange → Option LegacyFault
changes_fault [] = None
changes_fault (c ∷ cs) = least (change_fault c) (changes_fault cs)

-- a projection names an attribute
abbrev pub attributes_fault : List (List ℕ) → Option LegacyFault
attributes_fault [] = Some NoAttributes
attributes_fault (name ∷ names) = None
