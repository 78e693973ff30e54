use Rattle.std.proofs.Common.{◌∙◌}
use Rattle.condition_eval.proofs.Parts.{part_found}
use Rattle.condition_eval.proofs.compare.is_part.Goals as goal

pub returns : goal.returns
returns c = c.is_some.ensures ∙ part_found c.args.whole.now c.args.part.now c.find.result c.find.ensures
