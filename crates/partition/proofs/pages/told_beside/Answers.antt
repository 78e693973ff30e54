use Rattle.std.proofs.Common.{rules, ◌≡◌, None, Some, sym, ap, ◌∙◌}
use Rattle.std.specs.BTreeMap.{get, is_at}
use Rattle.std.specs.Map.{lookup}
use Rattle.std.specs.Ordering.{nat_cmp}
use Rattle.std.proofs.lemmas.Result.{IfOk-weaker}
use Rattle.local_index.specs.Claims.{is_committed}
use Rattle.local_index.specs.Tables.{claim_in}
use Rattle.partition.proofs.pages.told_beside.Goals as goal

pub returns-in-Some : goal.returns-in-Some
returns-in-Some g c =
    let cmp = g.R.LocalEntry.Ord.cmp in
    let found : get nat_cmp c.args.cell.now.locals.tables c.args.table ≡ Some c.in-Some.entries.now = search rules in
    IfOk-weaker c.page_of_items.result _ _ (λ told h n are. h n (λ q. ap (λ o. is_committed (claim_in cmp o q)) (sym found) ∙ are q)) c.page_of_items.ensures

pub returns-in-None : goal.returns-in-None
returns-in-None g c =
    let cmp = g.R.LocalEntry.Ord.cmp in
    let found : get nat_cmp c.args.cell.now.locals.tables c.args.table ≡ None = search rules in
    IfOk-weaker c.page_of_items-in-None.result _ _
    (λ told h n are. h n
    (λ q. (λ j. is_committed (lookup (is_at (cmp q)) (c.new.ensures.empty j))) ∙ ap (λ o. is_committed (claim_in cmp o q)) (sym found) ∙ are q))
    c.page_of_items-in-None.ensures
