-- What upkeep came to.
use Rattle.std.proofs.Common.{ℕ}
use Rattle.turnstile.specs.Passes.{PassView}
use Rattle.index_feeder.specs.Feeds.{Drains, LeavesDrained}
use Rattle.recovery_manager.specs.Sweeps.{Sweeps}
use Rattle.cell_model.specs.Service.{service}
use Rattle.table_history.specs.Entries.{TableEvent}
use Rattle.table_load.specs.Sending.{DrainsAll, SweepsAll}

module _ (n : ℕ) (p q : PassView TableEvent) where
  pub swept : (count : ℕ) → Sweeps (service n) n p count q → SweepsAll n p q
  swept count sweeps = record { count = count; sweeps = sweeps }

  pub drained : (fed : ℕ) → Drains (service n) n p fed q → LeavesDrained (service n) p q → DrainsAll n p q
  drained fed drains leaves = record { fed = fed; drains = drains; drained = leaves }
