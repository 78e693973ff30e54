use Rattle.std.proofs.Common.{◌≡◌, not, ◌&&◌, length}
use Rattle.table_rows.specs.Moves.{comes}
use Rattle.table_rows.specs.Places.{has_place}
use Rattle.table_rows.proofs.index.Index.undo.Given as goal

abbrev pub invariant-loop-step : goal.invariant-loop-step
invariant-loop-step l = record {
  same : l.self.keys ≡ l.fn.self.keys;
  places : (q : _)
      → (has_place l.self.places q && not (comes l.self.moves q))
      ≡ (has_place l.fn.self.places q && not (comes l.fn.self.moves q));
}

abbrev pub decreases-loop-step : goal.decreases-loop-step
decreases-loop-step l = length l.self.moves
