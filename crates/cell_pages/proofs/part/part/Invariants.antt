use Rattle.std.proofs.Common.{◌≡◌, ◌++◌, map, length}
use Rattle.cell_model.specs.Pages.{room_after}
use Rattle.cell_pages.specs.Asked.{entry_of, left}
use Rattle.cell_pages.proofs.part.part.Given as goal

abbrev pub invariant-loop-row : goal.invariant-loop-row
invariant-loop-row l = record {
  taken : left l.page l.page.room l.fn.rest ≡ map entry_of l.rows ++ left l.page l.room l.rest;
  room : l.room ≡ room_after l.page.room (map entry_of l.rows);
}

abbrev pub decreases-loop-row : goal.decreases-loop-row
decreases-loop-row l = length l.rest
