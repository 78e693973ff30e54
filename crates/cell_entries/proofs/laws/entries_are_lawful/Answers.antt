use Rattle.cell_entries.specs.EntryLaws.{named, spared, updates_keep}
use Rattle.cell_entries.proofs.laws.entries_are_lawful.Goals as goal

pub returns-clause-named : goal.returns-clause-named
returns-clause-named c = λ catalog key item q among. named catalog key item q among

pub returns-clause-spared : goal.returns-clause-spared
returns-clause-spared c = λ d moment catalog key item away there. spared d moment catalog key item away there

pub returns-clause-kept : goal.returns-clause-kept
returns-clause-kept c = λ name update moment catalog key item. updates_keep name update moment catalog key item
