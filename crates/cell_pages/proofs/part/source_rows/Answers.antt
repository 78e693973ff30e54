use Rattle.std.proofs.Common.{map, sym, ap, ◌∙◌, subst}
use Rattle.std.proofs.lemmas.Result.{IfOk-weaker}
use Rattle.cell_model.specs.Pages.{page_row}
use Rattle.cell_pages.specs.Walked.{IsWalked}
use Rattle.cell_pages.proofs.Sources.{source_under}
use Rattle.cell_pages.proofs.part.source_rows.Goals as goal

pub returns-in-Table : goal.returns-in-Table
returns-in-Table c =
    IfOk-weaker c.kept_rows.result _ _
    (λ list is. is ∙ ap (map page_row) (sym (source_under c.args.table.now c.args.source (subst IsWalked (sym c.in-Table.is) tt) c.args.kept.now)))
    c.kept_rows.ensures

pub returns-in-Global : goal.returns-in-Global
returns-in-Global c =
    IfOk-weaker c.kept_rows-in-Global.result _ _
    (λ list is. is ∙ ap (map page_row) (sym (source_under c.args.table.now c.args.source (subst IsWalked (sym c.in-Global.is) tt) c.args.kept.now)))
    c.kept_rows-in-Global.ensures
