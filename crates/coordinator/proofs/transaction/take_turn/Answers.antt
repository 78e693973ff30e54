use Rattle.coordinator.proofs.transaction.take_turn.Goals as goal

pub returns-clause-turns : goal.returns-clause-turns
returns-clause-turns g c =
    c.begin-end.ensures.turns

pub returns-clause-legal : goal.returns-clause-legal
returns-clause-legal g c =
    c.facts.ensures.legal

pub returns-clause-budget : goal.returns-clause-budget
returns-clause-budget g c =
    c.facts.ensures.budget

pub returns-clause-gate : goal.returns-clause-gate
returns-clause-gate g c =
    c.begin-end.ensures.gate
