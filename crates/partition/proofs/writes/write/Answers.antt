use Rattle.std.proofs.Common.{◌∙◌}
use Rattle.std.proofs.lemmas.Result.{IfOk-weaker, on_err_weaker}
use Rattle.txn_core.specs.History.{is_written}
use Rattle.partition.proofs.Keeping.{write_is}
use Rattle.partition.proofs.Changing.{unchanged}
use Rattle.partition.proofs.Stepping.{wrote_holds}
use Rattle.partition.proofs.writes.write.Goals as goal

pub returns-clause-says : goal.returns-clause-says
returns-clause-says g c =
    IfOk-weaker c.attempt.result _ _
    (λ a h n w f here. h n ∙ write_is (g.R.Rules.protocol n) c.args.action c.args.cell.now w f here) c.attempt.ensures.says

pub returns-clause-leaves : goal.returns-clause-leaves
returns-clause-leaves g c =
    IfOk-weaker c.attempt.result _ _
    (λ a h n w f here.
    wrote_holds (g.R.Rules.protocol n) (g.met.R.Rules.lawful n) (g.met.R.CellRules.ordered n) c.args.action c.args.cell.now c.attempt.new.cell w f
    here c.args.moment (is_written a) (h n))
    c.attempt.ensures.left

pub returns-clause-err : goal.returns-clause-err
returns-clause-err g c =
    on_err_weaker c.attempt.result
    (λ h n i w f here. unchanged (g.R.Rules.protocol n) i c.args.cell.now c.attempt.new.cell w f h here) c.attempt.ensures.err
