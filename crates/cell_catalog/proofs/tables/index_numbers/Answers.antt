use Rattle.std.proofs.Common.{◌∙◌}
use Rattle.std.proofs.lemmas.Result.{IfOk-weaker}
use Rattle.cell_model.specs.Catalogs.{numbered_indexes}
use Rattle.cell_catalog.proofs.Numbered.{all_stay}
use Rattle.cell_catalog.proofs.tables.index_numbers.Goals as goal

pub returns : goal.returns
returns c = IfOk-weaker c.numbers_beside.result _ _ (λ numbers is. is ∙ all_stay (numbered_indexes c.args.table.now)) c.numbers_beside.ensures
