-- What threads do that cells are lent to.
use Rattle.turnstile.specs.Passes.{PassView}
use Rattle.table_history.specs.Entries.{TableEvent}
use Rattle.table_cells.specs.declared.visits.Seat.{Seat}

-- from the first seat to the second this was done: by what is seen of the pass, and by the state, before and afterwards
pub record Visits {P S : Type 0} (seen : P → PassView TableEvent) (Does : PassView TableEvent → S → PassView TableEvent → S → Type 0)
    (old new : Seat P S) : Type 0 where
  pub does : Does (seen old.pass) old.state (seen new.pass) new.state
