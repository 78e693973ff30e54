use Rattle.table_history.proofs.OneDatabase.{stand_alike}
use Rattle.table_history.proofs.Others.{others_leave_tables}
use Rattle.table_history.proofs.Stand.{tables_stand}
use Rattle.table_history.proofs.laws.tables_stand.Goals as goal

pub returns-clause-some : goal.returns-clause-some
returns-clause-some c = tables_stand

pub returns-clause-one : goal.returns-clause-one
returns-clause-one c = stand_alike

pub returns-clause-others : goal.returns-clause-others
returns-clause-others c = others_leave_tables
