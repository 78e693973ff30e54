use Rattle.std.proofs.Common.{rules, ◌≡◌, None, Some, sym, ap, ◌∙◌}
use Rattle.std.specs.BTreeMap.{get, is_at}
use Rattle.std.specs.Map.{lookup}
use Rattle.std.specs.Ordering.{nat_cmp}
use Rattle.std.proofs.lemmas.Result.{IfOk-weaker}
use Rattle.partition.specs.Pages.{committed_among, items_of}
use Rattle.partition.proofs.Paged.{beside_are}
use Rattle.partition.proofs.pages.told_of_items.Goals as goal

pub returns-in-Some-clause-told : goal.returns-in-Some-clause-told
returns-in-Some-clause-told g c =
    let tables = c.args.cell.now.items.tables in
    let cmp = g.R.Key.Ord.cmp in
    let found : get nat_cmp tables c.page_table-table.result ≡ Some c.in-Some.items.now = search rules in
    IfOk-weaker c.told_beside.result _ _
    (λ told h n step.
    let page = (g.R.Rules.protocol n).page c.args.cell.now.catalog in
    h n
    (beside_are (g.R.Rules.protocol n) g.R.CellRules.locals c.args.cell.now c.page_table-table.result (Some c.in-Some.items.now) found
    c.slots-slots.result.now (λ k. ap (λ m. get cmp m k) c.slots-slots.ensures) step)
    ∙ ap (λ m. page (committed_among m.entries) c.args.page.now) c.slots-slots.ensures
    ∙ ap (λ o. page (items_of o) c.args.page.now) (sym found)
    ∙ ap (λ u. page (items_of (get nat_cmp tables u)) c.args.page.now) c.page_table-table.ensures)
    c.told_beside.ensures

pub returns-in-None-clause-told : goal.returns-in-None-clause-told
returns-in-None-clause-told g c =
    let tables = c.args.cell.now.items.tables in
    let cmp = g.R.Key.Ord.cmp in
    let found : get nat_cmp tables c.page_table-table.result ≡ None = search rules in
    IfOk-weaker c.told_beside-in-None.result _ _
    (λ told h n step.
    let page = (g.R.Rules.protocol n).page c.args.cell.now.catalog in
    h n
    (beside_are (g.R.Rules.protocol n) g.R.CellRules.locals c.args.cell.now c.page_table-table.result None found
    c.new.result (λ k j. lookup (is_at (cmp k)) (c.new.ensures.empty j)) step)
    ∙ (λ j. page (committed_among (c.new.ensures.empty j)) c.args.page.now)
    ∙ ap (λ o. page (items_of o) c.args.page.now) (sym found)
    ∙ ap (λ u. page (items_of (get nat_cmp tables u)) c.args.page.now) c.page_table-table.ensures)
    c.told_beside-in-None.ensures
