use Rattle.std.proofs.lemmas.Bool.Decides.{Decides-at}
use Rattle.cell_rules.proofs.Schemas.{schema_decides}
use Rattle.cell_rules.proofs.equal.are_equal_schemas.Goals as goal

pub returns : goal.returns
returns c = Decides-at c.eq.result _ c.eq.ensures (schema_decides c.args.left.now c.args.right.now)
