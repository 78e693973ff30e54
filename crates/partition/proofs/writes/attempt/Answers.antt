use Rattle.partition.proofs.Evaluated.{write_answers, write_leaves, write_makes}
use Rattle.partition.proofs.Moved.{if_ok_with}
use Rattle.partition.proofs.writes.attempt.Goals as goal

pub carry_out-requires : goal.carry_out-requires
carry_out-requires g c = λ n.
    (write_makes (g.R.Rules.protocol n) c.args.cell.now c.args.action g.R.CellRules.locals c.in_ok-answer.field-0 c.in-Made.item c.in-Made.changes c.in-Made.is (c.in_ok-answer.ensures n)).1

pub returns-in-Answered-clause-says : goal.returns-in-Answered-clause-says
returns-in-Answered-clause-says g c = λ n.
    (write_answers (g.R.Rules.protocol n) c.args.cell.now c.args.action g.R.CellRules.locals c.in_ok-answer.field-0 c.in-Answered.answer c.in-Answered.is (c.in_ok-answer.ensures n)).0

pub returns-in-Answered-clause-left : goal.returns-in-Answered-clause-left
returns-in-Answered-clause-left g c = λ n.
    write_leaves (g.R.Rules.protocol n) c.args.cell.now c.args.action c.in-Answered.answer c.args.moment
    (write_answers (g.R.Rules.protocol n) c.args.cell.now c.args.action g.R.CellRules.locals c.in_ok-answer.field-0 c.in-Answered.answer c.in-Answered.is (c.in_ok-answer.ensures n)).1

pub returns-in-Made-clause-says : goal.returns-in-Made-clause-says
returns-in-Made-clause-says g c =
    if_ok_with c.carry_out.result c.carry_out.ensures.says
    (λ a says n.
    says n (write_makes (g.R.Rules.protocol n) c.args.cell.now c.args.action g.R.CellRules.locals c.in_ok-answer.field-0 c.in-Made.item c.in-Made.changes c.in-Made.is (c.in_ok-answer.ensures n)).0)
