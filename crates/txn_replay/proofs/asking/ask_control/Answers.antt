use Rattle.partition.proofs.Moved.{if_ok_with}
use Rattle.txn_replay.proofs.Asked.{of_ledger, question_answers, question_takes}
use Rattle.txn_replay.proofs.asking.ask_control.Goals as goal

pub returns-in-Ask-clause-answers : goal.returns-in-Ask-clause-answers
returns-in-Ask-clause-answers g c =
    if_ok_with c.ask.result c.ask.ensures
    (λ a says n. question_answers (g.R.Rules.protocol n) c.args.cell.now c.args.moment c.args.message.now c.in-Ask.question a c.in-Ask.is
    (says n c.args.moment))

pub returns-in-Ask-clause-takes : goal.returns-in-Ask-clause-takes
returns-in-Ask-clause-takes g c =
    if_ok_with c.ask.result c.ask.ensures
    (λ a says n. question_takes (g.R.Rules.protocol n) (c.others_leave_it.ensures n) c.args.cell.now c.args.moment c.args.message.now
    c.in-Ask.question a c.in-Ask.is)

pub step_ledger-requires-clause-copied : goal.step_ledger-requires-clause-copied
step_ledger-requires-clause-copied g c =
    of_ledger (g.R.Rules.protocol 0) c.args.message.now (c.requires.goes 0) c.in_default.not-Ask
