use Rattle.std.proofs.Common.{◌≡◌, map}
use Rattle.txn_reader.proofs.ruling.items_of.Given as goal

abbrev pub invariant-loop-read : goal.invariant-loop-read
invariant-loop-read g l = l.items.items ≡ map (λ read. read.item) l.yielded
