use Rattle.partition.proofs.Entries.{on_err}
use Rattle.partition.proofs.Evaluated.{prepare_answers, prepare_leaves, prepare_makes}
use Rattle.partition.proofs.prepares.attempt.Goals as goal

pub hold-requires : goal.hold-requires
hold-requires g c = λ n.
    (prepare_makes (g.R.Rules.protocol n) c.args.cell.now c.args.action g.R.CellRules.locals c.args.number c.args.stamp c.in_ok-answer.field-0 c.in-Made.item c.in-Made.changes c.in-Made.is (c.in_ok-answer.ensures n)).1

pub returns-in_err-hold-in-Made-clause-err : goal.returns-in_err-hold-in-Made-clause-err
returns-in_err-hold-in-Made-clause-err g c =
    on_err c.from_residual-in_err-hold-in-Made.result
    (λ n clean.
    let made =
    (prepare_makes (g.R.Rules.protocol n) c.args.cell.now c.args.action g.R.CellRules.locals c.args.number c.args.stamp c.in_ok-answer.field-0 c.in-Made.item c.in-Made.changes c.in-Made.is (c.in_ok-answer.ensures n)).1 in
    c.in_err-hold-in-Made.ensures.err n (clean.unprepared made.free))

pub returns-in-Answered-clause-says : goal.returns-in-Answered-clause-says
returns-in-Answered-clause-says g c = λ n.
    (prepare_answers (g.R.Rules.protocol n) c.args.cell.now c.args.action g.R.CellRules.locals c.args.number c.args.stamp c.in_ok-answer.field-0 c.in-Answered.answer c.in-Answered.is (c.in_ok-answer.ensures n)).0

pub returns-in-Answered-clause-left : goal.returns-in-Answered-clause-left
returns-in-Answered-clause-left g c = λ n clean.
    (prepare_answers (g.R.Rules.protocol n) c.args.cell.now c.args.action g.R.CellRules.locals c.args.number c.args.stamp c.in_ok-answer.field-0 c.in-Answered.answer c.in-Answered.is (c.in_ok-answer.ensures n)).1

pub returns-in_ok-hold-in-Made-clause-says : goal.returns-in_ok-hold-in-Made-clause-says
returns-in_ok-hold-in-Made-clause-says g c = λ n.
    (prepare_makes (g.R.Rules.protocol n) c.args.cell.now c.args.action g.R.CellRules.locals c.args.number c.args.stamp c.in_ok-answer.field-0 c.in-Made.item c.in-Made.changes c.in-Made.is (c.in_ok-answer.ensures n)).0

pub returns-in_ok-hold-in-Made-clause-left : goal.returns-in_ok-hold-in-Made-clause-left
returns-in_ok-hold-in-Made-clause-left g c = λ n clean.
    let made =
    (prepare_makes (g.R.Rules.protocol n) c.args.cell.now c.args.action g.R.CellRules.locals c.args.number c.args.stamp c.in_ok-answer.field-0 c.in-Made.item c.in-Made.changes c.in-Made.is (c.in_ok-answer.ensures n)).1 in
    prepare_leaves (g.R.Rules.protocol n) c.args.cell.now c.args.action g.R.CellRules.locals c.args.number c.args.stamp c.hold.new.cell c.in-Made.item c.in-Made.changes made
    (c.in_ok-hold-in-Made.ensures.left n (clean.unprepared made.free))
