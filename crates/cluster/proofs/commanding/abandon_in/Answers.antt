use Rattle.cluster.proofs.Commanded.{keeps_all}
use Rattle.cluster.proofs.commanding.abandon_in.Goals as goal

pub returns-in-Partition : goal.returns-in-Partition
returns-in-Partition g c = λ n.
    keeps_all (g.R.Rules.protocol n) g.R.CellRules.locals c.args.cell.now c.in-Partition.partition c.abandon_catalog.new.cell c.in-Partition.is
    (λ i. c.abandon_catalog.ensures.kept n i) (c.abandon_catalog.ensures.in_step n)
