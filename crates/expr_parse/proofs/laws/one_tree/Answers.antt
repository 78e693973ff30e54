use Rattle.expr_parse.proofs.Along.{one_condition, one_list, one_update}
use Rattle.expr_parse.proofs.laws.one_tree.Goals as goal

pub returns-clause-condition : goal.returns-clause-condition
returns-clause-condition c = one_condition

pub returns-clause-paths : goal.returns-clause-paths
returns-clause-paths c = one_list

pub returns-clause-update : goal.returns-clause-update
returns-clause-update c = one_update
