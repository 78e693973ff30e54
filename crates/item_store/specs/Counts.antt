-- A cell's floor and numbers as the code keeps them.
use Rattle.txn_core.specs.Stamps.{single}
use Rattle.txn_core.specs.State.{Tally}
use Rattle.item_store.specs.declared.counts.Counts.{Counts}

-- before anything happened in the cell
abbrev pub fresh : Tally
fresh = record { floor = single 0; count = 0; gone = 0 }

-- the same, as the protocol has them
abbrev pub tally : Counts → Tally
tally c = record { floor = c.floor; count = c.count; gone = c.gone }
