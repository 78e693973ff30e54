use Rattle.std.proofs.Common.{◌∙◌}
use Rattle.cell_pages.proofs.Walks.{page_reversed}
use Rattle.cell_pages.proofs.walk.page_between.Goals as goal

pub returns-then-is_reversed : goal.returns-then-is_reversed
returns-then-is_reversed g c =
    let page = c.args.page.now in
    let ends = c.args.ends.now in
    c.no_row.ensures
    ∙ page_reversed g.K.Ord.cmp ends.low ends.high page (g.R.EntryRows.picked c.args.entry_rows.now page)
    g.met.K.Ord.total c.if-is_reversed.ensures c.args.map.now.entries
