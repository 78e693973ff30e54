use Rattle.std.proofs.lemmas.Bool.Decides.{same_from_decides}
use Rattle.cell_model.proofs.Exact.{same_actions_decide}
use Rattle.cell_rules.proofs.equal.are_same_actions.Goals as goal

pub returns : goal.returns
returns c =
    same_from_decides c.are_equal_lists.result _ c.are_equal_lists.ensures (same_actions_decide c.args.left.now c.args.right.now)
