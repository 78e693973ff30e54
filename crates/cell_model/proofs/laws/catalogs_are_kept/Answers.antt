use Rattle.cell_model.proofs.CatalogsKept.{commands_keep, kept_is_whole}
use Rattle.cell_model.proofs.laws.catalogs_are_kept.Goals as goal

pub returns-clause-kept : goal.returns-clause-kept
returns-clause-kept c = commands_keep

pub returns-clause-whole : goal.returns-clause-whole
returns-clause-whole c = kept_is_whole
