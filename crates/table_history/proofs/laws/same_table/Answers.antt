use Rattle.table_history.proofs.NumbersStay.{numbers_stay}
use Rattle.table_history.proofs.Looks.{looks_hold}
use Rattle.table_history.proofs.laws.same_table.Goals as goal

pub returns-clause-numbers : goal.returns-clause-numbers
returns-clause-numbers c = numbers_stay

pub returns-clause-looks : goal.returns-clause-looks
returns-clause-looks c = looks_hold
