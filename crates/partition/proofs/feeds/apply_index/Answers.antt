use Rattle.std.proofs.Common.{subst}
use Rattle.txn_core.specs.Feeding.{change}
use Rattle.partition.specs.Knows.{LeftByFeed}
use Rattle.partition.proofs.Fed.{fed_holds}
use Rattle.partition.proofs.feeds.apply_index.Goals as goal

pub returns-clause-leaves : goal.returns-clause-leaves
returns-clause-leaves g c = λ n moment w f here.
    let x = change c.args.index c.args.row_key c.args.after in
    fed_holds (g.R.Rules.protocol n) x c.args.cell.now c.carry_out.new.cell w f here (g.met.R.Rules.lawful n) (g.met.R.CellRules.ordered n) c.args.source c.args.sequence
    (subst (λ b. LeftByFeed (g.R.Rules.protocol n) c.args.cell.now c.carry_out.new.cell c.args.source c.args.sequence x b) (c.in_ok-is_fed.ensures.carried n) (c.in_ok-is_fed.ensures.left n))
