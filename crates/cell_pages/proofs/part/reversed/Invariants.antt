use Rattle.std.proofs.Common.{◌≡◌, ◌++◌, reverse, length}
use Rattle.cell_pages.proofs.part.reversed.Given as goal

abbrev pub invariant-loop-row : goal.invariant-loop-row
invariant-loop-row l = l.list ++ reverse l.rows ≡ reverse l.fn.rows

abbrev pub decreases-loop-row : goal.decreases-loop-row
decreases-loop-row l = length l.rows
