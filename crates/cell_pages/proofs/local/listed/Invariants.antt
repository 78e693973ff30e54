use Rattle.std.proofs.Common.{◌≡◌, map}
use Rattle.cell_model.specs.Pages.{page_row}
use Rattle.cell_pages.proofs.local.listed.Given as goal

abbrev pub invariant-loop-at : goal.invariant-loop-at
invariant-loop-at l = l.list ≡ map page_row l.yielded
