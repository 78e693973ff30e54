use Rattle.cell_entries.proofs.Walks.{from_entry}
use Rattle.cell_entries.proofs.ends.low_entry.Goals as goal

pub returns : goal.returns
returns c = λ at from. from_entry c.args.index.table c.args.index.place c.in_ok-at.at at (c.in_ok-at.ensures at from)
