use Rattle.std.proofs.Common.{◌≡◌, Some, sym, ap, ◌∙◌}
use Rattle.std.proofs.lemmas.Result.{IfOk-weaker}
use Rattle.partition.specs.Pages.{shown_to}
use Rattle.partition.proofs.pages.told.Goals as goal

pub returns-in-Some-clause-told : goal.returns-in-Some-clause-told
returns-in-Some-clause-told g c =
    IfOk-weaker c.told_of_rows.result _ _
    (λ told h n step.
    let page = c.args.page.now in
    let cell = c.args.cell.now in
    let named : (g.R.Rules.protocol n).page_index page ≡ Some c.in-Some.index = sym (c.page_index.ensures n) ∙ c.in-Some.is in
    h n named
    ∙ ap (λ index. (g.R.Rules.protocol n).page cell.catalog (shown_to cell (g.R.PageRules.read_table page) index) page) (sym named))
    c.told_of_rows.ensures.told
