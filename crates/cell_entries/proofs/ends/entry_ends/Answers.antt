use Rattle.cell_entries.proofs.Walks.{enclosed}
use Rattle.cell_entries.proofs.ends.entry_ends.Goals as goal

pub returns : goal.returns
returns c =
    enclosed c.args.index.table c.args.index.place c.args.page.now _ _ c.in_ok-first.first c.in_ok-last.last c.in_ok-low.ensures
    c.in_ok-first.ensures c.in_ok-last.ensures
