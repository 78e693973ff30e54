use Rattle.std.proofs.Common.{◌∙◌}
use Rattle.partition.proofs.Fed.{ack_is, acked_holds}
use Rattle.partition.proofs.feeds.acknowledge.Goals as goal

pub returns-clause-says : goal.returns-clause-says
returns-clause-says g c =
    λ n i w f here. c.take_first.ensures.says n ∙ ack_is (g.R.Rules.protocol n) i c.args.cell.now c.take_first.new.cell w f here c.args.sequence

pub returns-clause-leaves : goal.returns-clause-leaves
returns-clause-leaves g c =
    λ n i moment w f here.
    acked_holds (g.R.Rules.protocol n) i c.args.cell.now c.take_first.new.cell w f here c.args.sequence c.take_first.ensures.left
