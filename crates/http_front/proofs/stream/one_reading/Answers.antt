use Rattle.http_front.proofs.StreamLemmas
use Rattle.http_front.proofs.stream.one_reading.Goals as goal

pub returns : goal.returns
returns c = StreamLemmas.one_reading
