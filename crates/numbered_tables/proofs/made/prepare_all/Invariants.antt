use Rattle.std.proofs.Common.{◌≡◌, List, ◌++◌, length}
use Rattle.numbered_tables.specs.declared.change.TableChange.{TableChange}
use Rattle.numbered_tables.specs.Prepared.{prepared}
use Rattle.numbered_tables.proofs.made.prepare_all.Given as goal

abbrev pub invariant-loop-change : goal.invariant-loop-change
invariant-loop-change l =
    (done : List TableChange) × (l.fn.changes ≡ l.changes ++ done) × (l.tables.entries ≡ prepared done l.fn.tables.entries)

abbrev pub decreases-loop-change : goal.decreases-loop-change
decreases-loop-change l = length l.changes
