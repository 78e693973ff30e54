use Rattle.std.proofs.Common.{sym, ◌∙◌, subst}
use Rattle.partition.proofs.Moved.{on_ok_with}
use Rattle.cluster.specs.Standing.{StandsFor}
use Rattle.cluster.proofs.Commanded.{keeps_all}
use Rattle.cluster.proofs.commanding.plan_in.Goals as goal

pub returns-in-Partition-clause-planned : goal.returns-in-Partition-clause-planned
returns-in-Partition-clause-planned g c =
    on_ok_with c.plan_catalog.result c.plan_catalog.ensures.planned
    (λ planned n es stands.
    let here = subst (λ v. StandsFor (g.R.Rules.protocol n) g.R.CellRules.locals c.args.here v es) c.in-Partition.is stands in
    planned n (sym (here.1.partitions ∙ g.met.R.Rules.numbered n)))

pub returns-in-Partition-clause-kept : goal.returns-in-Partition-clause-kept
returns-in-Partition-clause-kept g c = λ n.
    keeps_all (g.R.Rules.protocol n) g.R.CellRules.locals c.args.cell.now c.in-Partition.partition c.plan_catalog.new.cell c.in-Partition.is
    (λ i. c.plan_catalog.ensures.kept n i) (c.plan_catalog.ensures.in_step n)
