use Rattle.std.proofs.Common.{◌∙◌}
use Rattle.std.proofs.lemmas.Result.{IfOk-weaker}
use Rattle.partition.proofs.Keeping.{get_is}
use Rattle.partition.proofs.reads.get.Goals as goal

pub returns : goal.returns
returns g c =
    IfOk-weaker c.read.result _ _ (λ a h n w f here. h n ∙ get_is (g.R.Rules.protocol n) c.args.key.now c.args.cell.now w f here)
    c.read.ensures
