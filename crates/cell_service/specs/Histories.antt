-- What sessions and helpers have seen in the end.
use Rattle.std.specs.Prelude.{ℕ, ◌+◌, List, [], ◌∷◌}
use Rattle.std.specs.List.{AllByRecursion}
use Rattle.turnstile.specs.Histories.{IsBeginning}
use Rattle.turnstile.specs.Passes.{PassView, TurnstileView, first_pass}
use Rattle.cluster.specs.World.{IsLegalLog}
use Rattle.cell_model.specs.Service.{service}
use Rattle.table_history.specs.Entries.{TableEvent}

-- the passes of the two helpers, behind those of so many sessions
abbrev pub passes_beside : TurnstileView → ℕ → List (PassView TableEvent)
passes_beside cells workers = first_pass cells.id (workers + 2) workers ∷ first_pass cells.id (workers + 2) (workers + 1) ∷ []

-- the first of the sessions, if there is one, has seen all that the others have and the helpers: a legal history of tables in so many
-- partitions
pub record HasSeenAll (n : ℕ) (first : PassView TableEvent) (others beside : List (PassView TableEvent)) : Type 0 where
  pub legal : IsLegalLog (service n) first.front
  pub sessions : AllByRecursion (λ (p : PassView TableEvent). IsBeginning p.front first.front) others
  pub helpers : AllByRecursion (λ (p : PassView TableEvent). IsBeginning p.front first.front) beside

abbrev pub HaveMet : ℕ → List (PassView TableEvent) → List (PassView TableEvent) → Type 0
HaveMet n [] helpers = Unit {0}
HaveMet n (first ∷ others) helpers = HasSeenAll n first others helpers
