use Rattle.std.proofs.Common.{◌∙◌}
use Rattle.std.proofs.lemmas.Result.{IfOk-weaker}
use Rattle.partition.proofs.Keeping.{version_told}
use Rattle.partition.proofs.reads.read_version.Goals as goal

pub returns : goal.returns
returns g c =
    IfOk-weaker c.read_with_version.result _ _
    (λ a h n w f here. h n ∙ version_told (g.R.Rules.protocol n) c.args.key.now c.args.cell.now w f here) c.read_with_version.ensures
