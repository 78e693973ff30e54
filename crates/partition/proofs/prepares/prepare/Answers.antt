use Rattle.std.proofs.Common.{◌∙◌}
use Rattle.std.proofs.lemmas.Result.{IfOk-weaker, on_err_weaker}
use Rattle.txn_core.specs.History.{is_accepted}
use Rattle.partition.proofs.Keeping.{prepare_is}
use Rattle.partition.proofs.Changing.{unchanged}
use Rattle.partition.proofs.Stepping.{is_clean, prepared_holds}
use Rattle.partition.proofs.prepares.prepare.Goals as goal

pub returns-clause-says : goal.returns-clause-says
returns-clause-says g c =
    IfOk-weaker c.attempt.result _ _
    (λ a h n w f here. h n ∙ prepare_is (g.R.Rules.protocol n) c.args.action c.args.cell.now w f here c.args.number c.args.stamp)
    c.attempt.ensures.says

pub returns-clause-leaves : goal.returns-clause-leaves
returns-clause-leaves g c =
    IfOk-weaker c.attempt.result _ _
    (λ a h n moment w f here.
    prepared_holds (g.R.Rules.protocol n) (g.met.R.Rules.lawful n) (g.met.R.CellRules.ordered n) c.args.action c.args.cell.now c.attempt.new.cell
    w f here c.args.number c.args.stamp (is_accepted a)
    (h n (is_clean (g.R.Rules.protocol n) (g.met.R.Rules.lawful n) (g.met.R.CellRules.ordered n) c.args.action c.args.cell.now c.attempt.new.cell w f here)))
    c.attempt.ensures.left

pub returns-clause-err : goal.returns-clause-err
returns-clause-err g c =
    on_err_weaker c.attempt.result
    (λ h n w f here.
    unchanged (g.R.Rules.protocol n) ((g.R.Rules.protocol n).core.cell_of ((g.R.Rules.protocol n).core.key_of c.args.action)) c.args.cell.now c.attempt.new.cell w f
    (h n (is_clean (g.R.Rules.protocol n) (g.met.R.Rules.lawful n) (g.met.R.CellRules.ordered n) c.args.action c.args.cell.now c.attempt.new.cell w f here)) here)
    c.attempt.ensures.err
