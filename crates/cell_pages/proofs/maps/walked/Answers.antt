use Rattle.std.proofs.Common.{◌≡◌, IfOk, subst, ◌∙◌}
use Rattle.std.specs.BTreeMap.Range.{entries_between}
use Rattle.cell_model.specs.Keys.{key_order}
use Rattle.cell_pages.specs.Walked.{included, page_along, row_met}
use Rattle.cell_pages.proofs.Walks.{met_between}
use Rattle.cell_pages.proofs.maps.walked.Goals as goal

pub returns : goal.returns
returns g c =
    let page = c.args.page.now in
    let es = c.args.map.now.entries in
    let row = row_met g.W.Keeps.shown c.args.table page in
    subst (λ part. IfOk c.page_between-part.result (λ answer. answer ≡ part))
    ((λ j. page_along row page (entries_between key_order (included (c.keys_at-ends.ensures.low j)) (included (c.keys_at-ends.ensures.high j)) es))
    ∙ met_between g.W.Keeps.shown page c.args.table c.in_ok-ends_of.field-0.low c.in_ok-ends_of.field-0.high c.in_ok-ends_of.ensures es)
    c.page_between-part.ensures
