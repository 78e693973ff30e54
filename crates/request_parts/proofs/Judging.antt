-- What is told of legacy members that are judged.
use Rattle.std.proofs.Common.{◌≡◌, Bool, true, false, List, [], ◌∷◌, Option, None, Some, Err, refl, ap, ◌∙◌}
use Rattle.std.specs.Prelude.{not, nat_le, if◌then◌else◌}
use Rattle.serde_json.specs.Data.{Data}
use Rattle.legacy_params.specs.declared.fault.LegacyFault.{LegacyFault}
use Rattle.legacy_params.specs.declared.operator.Operator.{Operator}
use Rattle.legacy_params.specs.declared.part.LegacyTest.{LegacyTest}
use Rattle.legacy_params.specs.Faults.{least, number, fault_of, fault_by, fault_if_known, changes_fault, keys_fault, tests_fault}
use Rattle.legacy_params.specs.Tests.{operator_of, is_for_keys}
use Rattle.request_parts.specs.declared.refusal.Refusal.{Refusal}
use Rattle.base_types.specs.declared.end.End.{End}
use Rattle.base_types.specs.declared.end.End.TheVariants.{Fault, NoMemory}
use Rattle.request_parts.specs.declared.legacy.LegacyKind.{LegacyKind}
use Rattle.request_parts.specs.declared.legacy.LegacyParts.{LegacyParts}
use Rattle.request_parts.specs.Ends.{IsToldOf}
use Rattle.request_parts.specs.Legacy.{AreLegacyParts, AreSound, IsJudgment, IsLegacy, names_fault, parts_fault}

-- the lesser of two faults that are known
pub least_at : (r a b c d : Option LegacyFault) → r ≡ least a b → a ≡ c → b ≡ d → r ≡ least c d
least_at r a b c d is one other = is ∙ ap (λ x. least x b) one ∙ ap (λ x. least c x) other

-- where the parts are refused, so are the members
pub parts_refused : (k : LegacyKind) (d : Data) (p : LegacyParts) (end : End Refusal) → AreLegacyParts k d p → IsToldOf (IsJudgment k d p) (Err end)
    → IsToldOf (IsLegacy k d) (Err end)
parts_refused k d p (Fault why) are told = (p, are, told)
parts_refused k d p NoMemory are told = tt

-- where no fault is told of two, neither is one
none_each : (a b : Option LegacyFault) → least a b ≡ None → (a ≡ None) × (b ≡ None)
none_each None b none = (refl, none)
none_each (Some f) None none = absurd (cc)
none_each (Some f) (Some g) none = at (nat_le (number f) (number g)) none
  where
    at : (first : Bool) → (if first then Some f else Some g) ≡ None → (Some f ≡ None) × (Some g ≡ None)
    at true e = absurd (cc)
    at false e = absurd (cc)

-- a test that may stand for keys may stand anywhere
as_test : (t : LegacyTest) → fault_of true t ≡ None → fault_of false t ≡ None
as_test t none = at (operator_of t) none
  where
    by : (op : Operator) (other : Bool) → not (is_for_keys op) ≡ other → fault_by op true t ≡ None → fault_by op false t ≡ None
    by op true is e = absurd (cc)
    by op false is e = rw is at e

    at : (op : Option Operator) → fault_if_known op true t ≡ None → fault_if_known op false t ≡ None
    at None e = e
    at (Some op) e = by op (not (is_for_keys op)) refl e

as_tests : (ts : List LegacyTest) → keys_fault ts ≡ None → tests_fault ts ≡ None
as_tests [] none = refl
as_tests (t ∷ ts) none =
    let both = none_each (fault_of true t) (keys_fault ts) none in
    λ j. least (as_test t both.0 j) (as_tests ts both.1 j)

-- where no fault is told of the parts, none has one; tests for keys may stand anywhere
pub record Faultless (p : LegacyParts) : Type 0 where
  pub changes : changes_fault p.changes ≡ None
  pub keys : tests_fault p.keys ≡ None
  pub tests : tests_fault p.tests ≡ None
  pub names : names_fault p.names ≡ None

pub faultless : (p : LegacyParts) → parts_fault p ≡ None → Faultless p
faultless p none =
    let changes = none_each _ _ none in
    let keys = none_each _ _ changes.1 in
    let tests = none_each _ _ keys.1 in record {
      changes = changes.0;
      keys = as_tests p.keys keys.0;
      tests = tests.0;
      names = tests.1;
    }

-- sound parts have no fault
pub sound_parts : (k : LegacyKind) (d : Data) (p : LegacyParts) → AreSound k d p → parts_fault p ≡ None
sound_parts k d p sound = (none_each _ _ (none_each _ _ sound.faultless).1).1
