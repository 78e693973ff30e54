-- A request is refused, or it is what is expected.
use Rattle.std.specs.Prelude.{◌≡◌, Option, None, Some, Result, Ok, Err}
use Rattle.table_model.specs.declared.refusal.Refusal.{Refusal}

-- what is asked is as expected, and nothing refuses it; or it is this that refuses it
abbrev pub RefusesOr : {A : Type 0} → Option Refusal → (A → Type 0) → Result A Refusal → Type 0
RefusesOr refusal Expected (Ok asked) = (refusal ≡ None) × Expected asked
RefusesOr refusal Expected (Err why) = refusal ≡ Some why
