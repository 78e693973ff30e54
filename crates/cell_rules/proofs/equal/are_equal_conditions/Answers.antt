use Rattle.cell_rules.proofs.Equalities.{conditions_decide}
use Rattle.cell_rules.proofs.equal.are_equal_conditions.Goals as goal

pub returns-in-Some-Some : goal.returns-in-Some-Some
returns-in-Some-Some c = rw c.in-Some-Some.is-0 (rw c.in-Some-Some.is-1 (conditions_decide c.eq.result _ _ c.eq.ensures))
