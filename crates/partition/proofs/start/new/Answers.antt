use Rattle.std.proofs.Common.{subst}
use Rattle.std.proofs.lemmas.Result.{IfOk-weaker}
use Rattle.partition.specs.Holds.{Holds}
use Rattle.partition.specs.Says.{first_feed, first_state}
use Rattle.partition.proofs.start.new.Goals as goal

pub returns-clause-stands : goal.returns-clause-stands
returns-clause-stands g c =
    IfOk-weaker c.under.result _ _
    (λ cell h n i same.
    subst (λ cat. Holds (g.R.Rules.protocol n) i cell (first_state (g.R.Rules.protocol n) cat) (first_feed (g.R.Rules.protocol n) cat)) (c.in_ok-catalog.ensures n) (h n i same))
    c.under.ensures.holds
