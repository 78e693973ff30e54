use Rattle.std.proofs.Common.{◌++◌, option_map, option_to_list, filter_map, take_all, sym, ap, ◌∙◌}
use Rattle.cell_model.specs.Pages.{page_row}
use Rattle.cell_pages.specs.Walked.{row_under}
use Rattle.cell_pages.proofs.Picked.{next_picked, picked_as}
use Rattle.cell_pages.proofs.rows.kept_rows.Goals as goal

pub loop-one-preserved : goal.loop-one-preserved
loop-one-preserved c =
    next_picked (λ one. option_map page_row (row_under c.args.table c.args.source one)) c.args.kept.now c.loop-one.one-index c.one-item.result
    c.loop-one.list c.add.new.list c.loop-one-test.true c.one-item.is
    c.loop-one.invariant (c.in_ok-add.ensures ∙ ap (λ row. c.loop-one.list ++ option_to_list row) c.in_ok-kept_row.ensures)

pub returns : goal.returns
returns c =
    c.loop-one.invariant
    ∙ ap (filter_map (λ one. option_map page_row (row_under c.args.table c.args.source one))) (take_all c.loop-one.one-index c.args.kept.now c.loop-one-test.false)
    ∙ sym (picked_as page_row (row_under c.args.table c.args.source) c.args.kept.now)
