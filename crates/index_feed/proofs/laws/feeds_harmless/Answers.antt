use Rattle.index_feed.proofs.Always.{repeats, acks_once, feeds_leave}
use Rattle.index_feed.proofs.laws.feeds_harmless.Goals as goal

pub returns : goal.returns
returns g c = record { repeated = λ I law. repeats I law; acked = λ I law. acks_once I law; items = λ I law. feeds_leave I law }
