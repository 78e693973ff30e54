use Rattle.std.proofs.lemmas.Map.Lookups.{exact_bytes, exact_signed}
use Rattle.attr_json.proofs.set.set_value.Goals as goal

pub ordered-requires : goal.ordered-requires
ordered-requires c = exact_bytes

pub ordered-requires-then-eq-2 : goal.ordered-requires-then-eq-2
ordered-requires-then-eq-2 c = exact_signed

pub ordered-requires-then-eq-3 : goal.ordered-requires-then-eq-3
ordered-requires-then-eq-3 c = exact_bytes
