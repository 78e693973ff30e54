use Rattle.std.proofs.Common.{◌∙◌}
use Rattle.txn_core.specs.History.{is_released}
use Rattle.partition.proofs.Keeping.{release_is}
use Rattle.partition.proofs.Stepping.{released_holds}
use Rattle.partition.proofs.ends.release.Goals as goal

pub returns-clause-says : goal.returns-clause-says
returns-clause-says g c =
    λ n w f here. c.let_go.ensures.says n ∙ release_is (g.R.Rules.protocol n) c.args.key.now c.args.cell.now w f here c.args.number

pub returns-clause-leaves : goal.returns-clause-leaves
returns-clause-leaves g c =
    λ n moment w f here.
    released_holds (g.R.Rules.protocol n) (g.met.R.Rules.lawful n) (g.met.R.CellRules.ordered n) c.args.key.now c.args.cell.now c.let_go.new.cell w f here
    c.args.number (is_released c.let_go.result) (c.let_go.ensures.left n)
