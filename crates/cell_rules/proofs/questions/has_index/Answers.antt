use Rattle.std.proofs.Common.{rules}
use Rattle.cell_model.specs.Catalogs.{numbered_indexes}
use Rattle.cell_catalog.proofs.Numbered.{found_by}
use Rattle.cell_rules.proofs.questions.has_index.Goals as goal

pub returns : goal.returns
returns c = search (rules, found_by c.args.number (numbered_indexes c.args.table.now))
