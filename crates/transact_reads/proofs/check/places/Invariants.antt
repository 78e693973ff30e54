use Rattle.std.proofs.Common.{◌≡◌, map}
use Rattle.transact_reads.specs.Found.{target_of}
use Rattle.transact_reads.specs.Checked.{place_of}
use Rattle.transact_reads.proofs.check.places.Given as goal

abbrev pub invariant-loop-read : goal.invariant-loop-read
invariant-loop-read l = l.places.items ≡ map (λ read. place_of (target_of read)) l.yielded
