use Rattle.std.proofs.Common.{rules, ◌≡◌, None, Some, sym, ap, ◌∙◌}
use Rattle.std.specs.BTreeMap.{get}
use Rattle.std.specs.Ordering.{nat_cmp}
use Rattle.std.proofs.lemmas.Result.{IfOk-weaker}
use Rattle.partition.specs.Pages.{rows_of}
use Rattle.partition.proofs.pages.told_of_rows.Goals as goal

pub returns-in-Some-clause-told : goal.returns-in-Some-clause-told
returns-in-Some-clause-told g c =
    let found : get nat_cmp c.args.cell.now.rows.indexes c.args.index ≡ Some c.in-Some.rows.now = search rules in
    IfOk-weaker c.page_of_rows.result _ _
    (λ told h n named. h n c.args.index named
    ∙ ap (λ o. (g.R.Rules.protocol n).page c.args.cell.now.catalog (rows_of o) c.args.page.now) (sym found)) c.page_of_rows.ensures

pub returns-in-None-clause-told : goal.returns-in-None-clause-told
returns-in-None-clause-told g c =
    let found : get nat_cmp c.args.cell.now.rows.indexes c.args.index ≡ None = search rules in
    IfOk-weaker c.page_of_rows-in-None.result _ _
    (λ told h n named. h n c.args.index named
    ∙ (λ j. (g.R.Rules.protocol n).page c.args.cell.now.catalog (c.new.ensures.empty j) c.args.page.now)
    ∙ ap (λ o. (g.R.Rules.protocol n).page c.args.cell.now.catalog (rows_of o) c.args.page.now) (sym found)) c.page_of_rows-in-None.ensures
