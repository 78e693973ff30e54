use Rattle.std.proofs.Common.{◌≡◌, ◌∙◌, subst}
use Rattle.std.proofs.lemmas.Result.{IfOk-weaker}
use Rattle.partition.specs.Knows.{shown_by}
use Rattle.partition.proofs.Fed.{out_is}
use Rattle.partition.proofs.feeds.peek_out.Goals as goal

pub returns : goal.returns
returns g c =
    IfOk-weaker c.show.result _ _
    (λ a h n i w f here.
    subst (λ m. a ≡ shown_by (g.R.Rules.protocol m) c.args.cell.now) (here.partitions ∙ g.met.R.Rules.numbered n) h
    ∙ out_is (g.R.Rules.protocol n) i c.args.cell.now c.args.cell.now w f here)
    c.show.ensures
