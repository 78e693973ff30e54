use Rattle.cluster.proofs.Commanded.{carries_planned}
use Rattle.cluster.proofs.commanding.carry_out_in.Goals as goal

pub returns-in-Partition : goal.returns-in-Partition
returns-in-Partition g c = λ n moment.
    carries_planned (g.R.Rules.protocol n) g.R.CellRules.locals g.R.CommandRules.target g.R.CommandRules.numbers c.args.cell.now c.in-Partition.partition
    c.commit_catalog.new.cell c.in-Partition.is moment (λ i. c.commit_catalog.ensures.own n i moment)
    (λ i. c.commit_catalog.ensures.own_in_step n i moment)
