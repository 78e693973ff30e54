use Rattle.std.proofs.Common.{subst}
use Rattle.std.proofs.lemmas.Result.{IfOk-weaker, on_err_weaker}
use Rattle.cluster.specs.Serving.{Serves}
use Rattle.cluster.proofs.Serving.{control_answers, control_keeps, control_stands, partition_answers, partition_keeps, partition_stands}
use Rattle.cluster.proofs.serve.serve.Goals as goal

pub step-requires : goal.step-requires
step-requires g c = subst (λ v. Serves (g.R.Rules.protocol 1) v c.args.message) c.in-Partition.is (c.requires 1)

pub step-requires-in-Control : goal.step-requires-in-Control
step-requires-in-Control g c = record { goes = λ n. subst (λ v. Serves (g.R.Rules.protocol n) v c.args.message) c.in-Control.is (c.requires n) }

pub returns-in-Partition-clause-answers : goal.returns-in-Partition-clause-answers
returns-in-Partition-clause-answers g c =
    IfOk-weaker c.step.result _ _
    (λ a h n.
    partition_answers (g.R.Rules.protocol n) g.R.CellRules.locals c.args.cell.now c.in-Partition.partition c.in-Partition.is (g.met.R.Rules.lawful n) c.args.message
    c.args.moment a (h n))
    c.step.ensures.answers

pub returns-in-Partition-clause-stands : goal.returns-in-Partition-clause-stands
returns-in-Partition-clause-stands g c =
    IfOk-weaker c.step.result _ _
    (λ a h n.
    partition_stands (g.R.Rules.protocol n) g.R.CellRules.locals c.args.cell.now c.in-Partition.partition c.in-Partition.is c.step.new.cell c.args.message c.args.moment a
    (h n) (c.step.ensures.in_step n))
    c.step.ensures.stands

pub returns-in-Partition-clause-err : goal.returns-in-Partition-clause-err
returns-in-Partition-clause-err g c =
    on_err_weaker c.step.result
    (λ h n.
    partition_keeps (g.R.Rules.protocol n) g.R.CellRules.locals c.args.cell.now c.in-Partition.partition c.in-Partition.is c.step.new.cell c.args.message (h n)
    (c.step.ensures.in_step n))
    c.step.ensures.err

pub returns-in-Control-clause-answers : goal.returns-in-Control-clause-answers
returns-in-Control-clause-answers g c =
    IfOk-weaker c.step-in-Control.result _ _
    (λ a h n.
    control_answers (g.R.Rules.protocol n) g.R.CellRules.locals c.args.cell.now c.in-Control.control c.in-Control.is (c.own_entries_tell_it.ensures n) c.args.message
    c.args.moment a (h n))
    c.step-in-Control.ensures.answers

pub returns-in-Control-clause-stands : goal.returns-in-Control-clause-stands
returns-in-Control-clause-stands g c =
    IfOk-weaker c.step-in-Control.result _ _
    (λ a h n.
    control_stands (g.R.Rules.protocol n) g.R.CellRules.locals c.args.cell.now c.in-Control.control c.in-Control.is (c.own_entries_tell_it.ensures n)
    c.step-in-Control.new.self c.args.message c.args.moment a (h n))
    c.step-in-Control.ensures.takes

pub returns-in-Control-clause-err : goal.returns-in-Control-clause-err
returns-in-Control-clause-err g c =
    on_err_weaker c.step-in-Control.result
    (λ h n.
    control_keeps (g.R.Rules.protocol n) g.R.CellRules.locals c.args.cell.now c.in-Control.control c.in-Control.is (c.unchanged_holds.ensures n) c.step-in-Control.new.self
    c.args.message h)
    c.step-in-Control.ensures.err
