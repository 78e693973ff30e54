use Rattle.std.proofs.Common.{◌∙◌}
use Rattle.std.proofs.lemmas.Result.{IfOk-weaker}
use Rattle.cell_entries.specs.Met.{item_in}
use Rattle.cell_entries.proofs.Walks.{met_between}
use Rattle.cell_entries.proofs.page.walked.Goals as goal

pub returns : goal.returns
returns g c =
    let table = c.args.index.table in
    let items = item_in g.W.Keeps.shown c.args.items.now table in
    IfOk-weaker c.page_between-part.result _ _
    (λ answer is. is
    ∙ met_between items c.args.page.now table c.args.index.place c.in_ok-ends.ends.low c.in_ok-ends.ends.high c.in_ok-ends.ensures c.args.entries.now.entries)
    c.page_between-part.ensures
