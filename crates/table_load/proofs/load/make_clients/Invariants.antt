use Rattle.std.proofs.Common.{◌≡◌, ◌++◌, List, length}
use Rattle.turnstile.specs.Passes.{PassView}
use Rattle.table_history.specs.Entries.{TableEvent}
use Rattle.table_load.specs.Loads.{AreNumbered}
use Rattle.table_load.proofs.load.make_clients.Given as goal

abbrev pub decreases-loop-pass : goal.decreases-loop-pass
decreases-loop-pass l = length l.passes

abbrev pub invariant-loop-pass : goal.invariant-loop-pass
invariant-loop-pass l =
    (done : List (PassView TableEvent)) × (l.fn.passes ≡ l.passes ++ done) × AreNumbered (length l.passes) done l.clients
