use Rattle.std.specs.Option.{option_copied}
use Rattle.std.proofs.lemmas.Result.{IfOk-weaker}
use Rattle.cell_model.specs.Pages.{rows_in}
use Rattle.cell_pages.proofs.part.page_part.Goals as goal

pub returns : goal.returns
returns c =
    IfOk-weaker c.part_in_order.result _ _
    (λ answer is. is (rows_in (option_copied c.args.table) c.args.page.now.source c.args.kept.now) c.in_ok-rows.ensures)
    c.part_in_order.ensures
