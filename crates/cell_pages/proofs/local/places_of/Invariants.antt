use Rattle.std.proofs.Common.{◌≡◌, ◌≤◌, drop, length}
use Rattle.row_keys.specs.Rows.{index_of}
use Rattle.cell_model.specs.Pages.{items_of}
use Rattle.cell_pages.proofs.local.places_of.Given as goal

abbrev pub invariant-loop-left : goal.invariant-loop-left
invariant-loop-left l = record {
  within : l.left ≤ length l.kept;
  places : l.places.entries ≡ index_of l.schema l.keys (items_of l.table (drop l.left l.kept));
}

abbrev pub decreases-loop-left : goal.decreases-loop-left
decreases-loop-left l = l.left
