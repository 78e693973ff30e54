use Rattle.std.proofs.Common.{◌∙◌}
use Rattle.txn_core.specs.History.{is_applied}
use Rattle.partition.proofs.Keeping.{apply_is}
use Rattle.partition.proofs.Stepping.{applied_holds}
use Rattle.partition.proofs.ends.apply.Goals as goal

pub returns-clause-says : goal.returns-clause-says
returns-clause-says g c =
    λ n w f here. c.settle.ensures.says n ∙ apply_is (g.R.Rules.protocol n) c.args.key.now c.args.cell.now w f here c.args.number

pub returns-clause-leaves : goal.returns-clause-leaves
returns-clause-leaves g c =
    λ n moment w f here.
    applied_holds (g.R.Rules.protocol n) (g.met.R.Rules.lawful n) (g.met.R.CellRules.ordered n) c.args.key.now c.args.cell.now c.settle.new.cell w f here
    c.args.number (is_applied c.settle.result) (c.settle.ensures.left n)
