use Rattle.std.proofs.Common.{refl, sym, subst}
use Rattle.std.proofs.lemmas.Result.{IfOk-weaker}
use Rattle.txn_core.specs.declared.message.Message.{Message}
use Rattle.control_cell.specs.Holding.{Answers, TakesAllowed}
use Rattle.control_cell.proofs.Others.{one_of_them, others_taken}
use Rattle.control_cell.proofs.cell.ControlCell.step.Goals as goal

pub unreachable-requires : goal.unreachable-requires
unreachable-requires g c =
    one_of_them (g.R.Rules.protocol 1) c.args.message (c.requires.goes 1) c.in_default.not-Begin c.in_default.not-Decide c.in_default.not-Done
    c.in_default.not-Forget c.in_default.not-FateOf c.in_default.not-Recall c.in_default.not-Unfinished c.in_default.not-Ask

pub returns-in-Decide-clause-answers : goal.returns-in-Decide-clause-answers
returns-in-Decide-clause-answers g c =
    λ n.
    subst (λ m. Answers (g.R.Rules.protocol n) c.args.self.now c.args.moment m c.decide.result) (sym c.in-Decide.is)
    (c.decide.ensures.answers n c.args.moment)

pub returns-in-Decide-clause-takes : goal.returns-in-Decide-clause-takes
returns-in-Decide-clause-takes g c =
    λ n.
    subst (λ m. TakesAllowed (g.R.Rules.protocol n) c.args.self.now c.decide.new.self c.args.moment m c.decide.result) (sym c.in-Decide.is)
    (λ es e h allowed is. c.decide.ensures.takes n c.args.moment es e h is)

pub returns-in-Forget-clause-answers : goal.returns-in-Forget-clause-answers
returns-in-Forget-clause-answers g c =
    λ n.
    subst (λ m. Answers (g.R.Rules.protocol n) c.args.self.now c.args.moment m c.forget.result) (sym c.in-Forget.is)
    (c.forget.ensures.answers n c.args.moment)

pub returns-in-Forget-clause-takes : goal.returns-in-Forget-clause-takes
returns-in-Forget-clause-takes g c =
    λ n.
    subst (λ m. TakesAllowed (g.R.Rules.protocol n) c.args.self.now c.forget.new.self c.args.moment m c.forget.result) (sym c.in-Forget.is)
    (c.forget.ensures.takes n c.args.moment)

pub returns-in-FateOf-clause-answers : goal.returns-in-FateOf-clause-answers
returns-in-FateOf-clause-answers g c =
    λ n.
    subst (λ m. Answers (g.R.Rules.protocol n) c.args.self.now c.args.moment m c.fate_of.result) (sym c.in-FateOf.is)
    (c.fate_of.ensures n c.args.moment)

pub returns-in-FateOf-clause-takes : goal.returns-in-FateOf-clause-takes
returns-in-FateOf-clause-takes g c =
    λ n.
    subst (λ m. TakesAllowed (g.R.Rules.protocol n) c.args.self.now c.args.self.now c.args.moment m c.fate_of.result) (sym c.in-FateOf.is)
    (others_taken (g.R.Rules.protocol n) c.args.self.now c.args.moment (Message.FateOf c.in-FateOf.number) c.fate_of.result (λ b. refl))

pub returns-in-Recall-clause-answers : goal.returns-in-Recall-clause-answers
returns-in-Recall-clause-answers g c =
    IfOk-weaker c.recall.result _ _
    (λ a h n. subst (λ m. Answers (g.R.Rules.protocol n) c.args.self.now c.args.moment m a) (sym c.in-Recall.is) (h n c.args.moment)) c.recall.ensures

pub returns-in-Recall-clause-takes : goal.returns-in-Recall-clause-takes
returns-in-Recall-clause-takes g c =
    IfOk-weaker c.recall.result _ _
    (λ a h n.
    subst (λ m. TakesAllowed (g.R.Rules.protocol n) c.args.self.now c.args.self.now c.args.moment m a) (sym c.in-Recall.is)
    (others_taken (g.R.Rules.protocol n) c.args.self.now c.args.moment (Message.Recall c.in-Recall.number) a (λ b. refl)))
    c.recall.ensures

pub returns-in-Unfinished-clause-answers : goal.returns-in-Unfinished-clause-answers
returns-in-Unfinished-clause-answers g c =
    IfOk-weaker c.unfinished.result _ _
    (λ a h n. subst (λ m. Answers (g.R.Rules.protocol n) c.args.self.now c.args.moment m a) (sym c.in-Unfinished.is) (h n c.args.moment)) c.unfinished.ensures

pub returns-in-Unfinished-clause-takes : goal.returns-in-Unfinished-clause-takes
returns-in-Unfinished-clause-takes g c =
    IfOk-weaker c.unfinished.result _ _
    (λ a h n.
    subst (λ m. TakesAllowed (g.R.Rules.protocol n) c.args.self.now c.args.self.now c.args.moment m a) (sym c.in-Unfinished.is)
    (others_taken (g.R.Rules.protocol n) c.args.self.now c.args.moment Message.Unfinished a (λ b. refl)))
    c.unfinished.ensures

pub returns-in-Ask-clause-answers : goal.returns-in-Ask-clause-answers
returns-in-Ask-clause-answers g c =
    IfOk-weaker c.ask.result _ _
    (λ a h n. subst (λ m. Answers (g.R.Rules.protocol n) c.args.self.now c.args.moment m a) (sym c.in-Ask.is) (h n c.args.moment)) c.ask.ensures

pub returns-in-Ask-clause-takes : goal.returns-in-Ask-clause-takes
returns-in-Ask-clause-takes g c =
    IfOk-weaker c.ask.result _ _
    (λ a h n.
    subst (λ m. TakesAllowed (g.R.Rules.protocol n) c.args.self.now c.args.self.now c.args.moment m a) (sym c.in-Ask.is)
    (others_taken (g.R.Rules.protocol n) c.args.self.now c.args.moment (Message.Ask c.in-Ask.question) a (λ b. refl)))
    c.ask.ensures
