use Rattle.index_feed.proofs.Always.{drained, completes}
use Rattle.index_feed.proofs.laws.drained_is_projection.Goals as goal

pub returns : goal.returns
returns g c = record { drained = λ I law. drained I law; waits = λ I law. completes I law }
