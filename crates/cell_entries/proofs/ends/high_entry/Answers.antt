use Rattle.std.proofs.Common.{sym, ap, ◌∙◌}
use Rattle.cell_pages.specs.Walked.{is_up_to}
use Rattle.cell_entries.proofs.Walks.{up_to_entry}
use Rattle.cell_entries.proofs.ends.high_entry.Goals as goal

pub returns-in-Some : goal.returns-in-Some
returns-in-Some c = λ at up_to.
    up_to_entry c.args.index.table c.args.index.place c.in-Some.at at (sym (ap (λ high. is_up_to high at) c.in-Some.is) ∙ up_to)
