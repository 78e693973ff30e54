use Rattle.std.proofs.lemmas.Bool.Decides.{Decides-at}
use Rattle.cell_rules.proofs.Equalities.{values_decide}
use Rattle.cell_rules.proofs.equal.are_equal_values.Goals as goal

pub returns : goal.returns
returns c = Decides-at c.eq.result _ c.eq.ensures (values_decide c.args.left.now c.args.right.now)
