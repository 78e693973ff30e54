-- What a pass counts between two moments of it: its own entries in order, and the units that they took.
use Rattle.std.specs.Prelude.{◌≡◌, ◌⊎◌, ℕ, ◌+◌, List, length}
use Rattle.std.specs.List.{AllByRecursion}
use Rattle.turnstile.specs.Histories.{Trail}
use Rattle.turnstile.specs.Passes.{PassView, most_units}
use Rattle.txn_core.specs.Service.{Service, Event}
use Rattle.cluster.specs.declared.step.StepError.{StepError}
use Rattle.cluster.specs.Events.{pass_of}

module _ {K V A F C D Q B : Type 0} (S : Service K V A F C D Q B) where
  -- each of these entries has this moment
  abbrev pub AllAt : ℕ → List (Event S) → Type 0
  AllAt moment entries = AllByRecursion (λ e. e.moment ≡ moment) entries

  -- from p to q the pass counted these entries and no others, at its moment and for one unit each, and used so many units more
  pub record Counts (p : PassView (Event S)) (entries : List (Event S)) (more : ℕ) (q : PassView (Event S)) : Type 0 where
    pub pass : q ≡ record p { used = q.used; front = q.front }
    pub trail : Trail pass_of p.number p.front entries q.front
    pub moments : AllAt p.moment entries
    pub units : q.used ≡ p.used + length entries + more

  -- these were counted where a call ends by an error: where no unit is left, for one unit each; for want of memory one unit more
  -- may be used
  abbrev pub CountsUntil : PassView (Event S) → List (Event S) → StepError → PassView (Event S) → Type 0
  CountsUntil p entries StepError.Spent q = Counts p entries 0 q × (q.used ≡ most_units)
  CountsUntil p entries StepError.NoMemory q = Counts p entries 0 q ⊎ Counts p entries 1 q
