use Rattle.cell_rules.proofs.Equalities.{updates_decide}
use Rattle.cell_rules.proofs.equal.are_equal_updates.Goals as goal

pub returns-in-Some-Some : goal.returns-in-Some-Some
returns-in-Some-Some c =
    rw c.in-Some-Some.is-0 (rw c.in-Some-Some.is-1 (updates_decide c.eq.result c.in-Some-Some.one c.in-Some-Some.other c.eq.ensures))
