use Rattle.std.proofs.Common.{◌≡◌, map}
use Rattle.std.specs.Prelude.{filter_map}
use Rattle.batch_calls.specs.Writes.{unless_made}
use Rattle.batch_calls.proofs.Agreed.{lent_part}
use Rattle.batch_calls.proofs.told.unmade.Given as goal

abbrev pub invariant-loop-wrote : goal.invariant-loop-wrote
invariant-loop-wrote l = l.left ≡ filter_map unless_made (map lent_part l.yielded)
