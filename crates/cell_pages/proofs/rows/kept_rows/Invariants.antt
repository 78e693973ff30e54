use Rattle.std.proofs.Common.{◌≡◌, filter_map, option_map, take}
use Rattle.cell_model.specs.Pages.{page_row}
use Rattle.cell_pages.specs.Walked.{row_under}
use Rattle.cell_pages.proofs.rows.kept_rows.Given as goal

abbrev pub invariant-loop-one : goal.invariant-loop-one
invariant-loop-one l = l.list ≡ filter_map (λ one. option_map page_row (row_under l.table l.source one)) (take l.one-index l.kept)
