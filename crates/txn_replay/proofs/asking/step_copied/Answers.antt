use Rattle.std.proofs.Common.{subst}
use Rattle.partition.specs.Steps.{StepStands}
use Rattle.partition.proofs.Moved.{if_ok_with}
use Rattle.txn_replay.proofs.asking.step_copied.Goals as goal

pub returns-clause-stands : goal.returns-clause-stands
returns-clause-stands g c =
    if_ok_with c.step.result c.step.ensures.stands
    (λ a h n. subst (λ m. StepStands (g.R.Rules.protocol n) c.args.cell.now c.step.new.cell m c.args.moment a) c.in_ok-copy.ensures (h n))
