-- What is served at a port: the replies on each connection are right, by one history of what all requests do to tables in
-- partitions.
use Rattle.std.specs.Prelude.{◌≡◌, ◌⊎◌, ℕ, ◌+◌, List, Option}
use Rattle.std.specs.List.{AllZip}
use Rattle.ddb_outside.specs.Listeners.{Connections}
use Rattle.http_workers.specs.declared.serve.ServeEnd.{ServeEnd}
use Rattle.http_workers.specs.declared.serve.ServeEnd.TheVariants.{Done, NetFault, NoMemory}
use Rattle.http_workers.specs.Crews.{ServesAll}
use Rattle.turnstile.specs.Passes.{PassView, TurnstileView, first_passes}
use Rattle.cluster.specs.Events.{pass_of}
use Rattle.cluster.specs.Steps.{partitions_of}
use Rattle.pass_sessions.specs.PassWays.{pass_ways}
use Rattle.pass_sessions.specs.Meetings.{SeesMore}
use Rattle.table_history.specs.Entries.{TableEvent}
use Rattle.cell_helpers.specs.Upkeep.{Upkeep}
use Rattle.cell_service.specs.Right.{Right}
use Rattle.cell_service.specs.Histories.{HaveMet, passes_beside}

-- the status by serving's end
abbrev pub serve_status : ServeEnd → ℕ
serve_status Done = 0
serve_status NetFault = 4
serve_status NoMemory = 7

-- so many workers served the listener out of so many partitions, each with a pass that had seen nothing before; beside them two
-- passes did what binds no request; and in the end the first worker's pass has seen all that any of them had, a legal history
pub record ServesTables (partitions workers : ℕ) (moments : Option (ℕ → ℕ)) (end : ServeEnd) (old new : Option Connections) : Type 0 where
  pub cells : TurnstileView
  pub count : partitions_of cells ≡ partitions
  pub passes : List (PassView TableEvent)
  pub served : ServesAll (pass_ways pass_of Right) end moments old new (first_passes cells.id (workers + 2) workers) passes
  pub beside : List (PassView TableEvent)
  pub helped : AllZip Upkeep (passes_beside cells workers) beside
  pub met : List (PassView TableEvent)
  pub met_beside : List (PassView TableEvent)
  pub seen : AllZip (SeesMore pass_of) passes met
  pub seen_beside : AllZip (SeesMore pass_of) beside met_beside
  pub history : HaveMet partitions met met_beside

-- the listener was served, and the status says how that ended; or nothing was served, since memory or the port was refused
abbrev pub RunsListener : ℕ → ℕ → Option (ℕ → ℕ) → Option Connections → Option Connections → ℕ → Type 0
RunsListener partitions workers moments old new status =
    ((end : ServeEnd) × (status ≡ serve_status end) × ServesTables partitions workers moments end old new)
    ⊎ (((status ≡ 4) ⊎ (status ≡ 7)) × (new ≡ old))
