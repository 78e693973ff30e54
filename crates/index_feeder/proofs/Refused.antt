-- Messages for which memory was refused had a unit left.
use Rattle.std.proofs.Common.{◌≡◌, List, [], ◌++◌, arith, length-append}
use Rattle.turnstile.specs.Passes.{PassView, most_units}
use Rattle.txn_core.specs.Service.{Service, Event}
use Rattle.cluster.specs.declared.step.StepError.{StepError}
use Rattle.cluster.specs.Counts.{Counts}
use Rattle.index_feeder.specs.Feeds.{HadUnit}

module _ {K V A F C D Q B : Type 0} (S : Service K V A F C D Q B) where
  -- the first message of all
  pub had_none : (p : PassView (Event S)) (why : StepError) → (p.used ≡ most_units → why ≡ StepError.Spent) → HadUnit S p [] why
  had_none p StepError.Spent full = tt
  had_none p StepError.NoMemory full = λ used. let spent = full (omega (arith, used)) in absurd (cc)

  -- one behind others
  pub had_on :
      (p : PassView (Event S)) (xs : List (Event S)) (q : PassView (Event S)) (ys : List (Event S)) (why : StepError) → Counts S p xs 0 q
      → HadUnit S q ys why → HadUnit S p (xs ++ ys) why
  had_on p xs q ys StepError.Spent one two = tt
  had_on p xs q ys StepError.NoMemory one two = λ used. two (let units = one.units in let long = length-append xs ys in omega (arith, used))
