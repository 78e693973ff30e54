use Rattle.std.proofs.Common.{◌≡◌, map}
use Rattle.txn_reader.specs.Reasons.{reason_of}
use Rattle.txn_reader.proofs.ruling.reasons_of.Given as goal

abbrev pub invariant-loop-one : goal.invariant-loop-one
invariant-loop-one g l = l.reasons.items ≡ map (λ reads. reason_of reads.0.now reads.1.now) l.yielded
