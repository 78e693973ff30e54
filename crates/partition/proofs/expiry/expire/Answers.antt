use Rattle.std.proofs.Common.{◌∙◌}
use Rattle.std.proofs.lemmas.Result.{IfOk-weaker, on_err_weaker}
use Rattle.txn_core.specs.History.{is_expired}
use Rattle.partition.proofs.Keeping.{expire_is}
use Rattle.partition.proofs.Changing.{unchanged}
use Rattle.partition.proofs.Stepping.{wrote_holds}
use Rattle.partition.proofs.expiry.expire.Goals as goal

pub returns-clause-says : goal.returns-clause-says
returns-clause-says g c =
    IfOk-weaker c.attempt_removal.result _ _
    (λ a h n w f here. h n ∙ expire_is (g.R.Rules.protocol n) c.args.action c.args.cell.now w f here c.args.moment) c.attempt_removal.ensures.says

pub returns-clause-leaves : goal.returns-clause-leaves
returns-clause-leaves g c =
    IfOk-weaker c.attempt_removal.result _ _
    (λ a h n w f here.
    wrote_holds (g.R.Rules.protocol n) (g.met.R.Rules.lawful n) (g.met.R.CellRules.ordered n) c.args.action c.args.cell.now c.attempt_removal.new.cell w f
    here c.args.moment (is_expired a) (h n))
    c.attempt_removal.ensures.left

pub returns-clause-err : goal.returns-clause-err
returns-clause-err g c =
    on_err_weaker c.attempt_removal.result
    (λ h n i w f here. unchanged (g.R.Rules.protocol n) i c.args.cell.now c.attempt_removal.new.cell w f h here) c.attempt_removal.ensures.err
