use Rattle.std.proofs.Common.{◌∙◌, sym, rules}
use Rattle.cell_rules.proofs.Equalities.{actions_decide}
use Rattle.cell_rules.proofs.equal.are_equal_actions.Goals as goal

pub returns : goal.returns
returns c =
    actions_decide c.are_equal_statements.result c.args.left.now c.args.right.now _ _ c.statement.ensures c.statement-2.ensures
    (sym c.key.ensures ∙ c.are_equal_keys.ensures.0 (search rules) ∙ c.key-2.ensures) c.are_equal_statements.ensures
