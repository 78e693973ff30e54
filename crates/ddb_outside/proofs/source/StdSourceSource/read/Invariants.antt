use Rattle.std.proofs.Common.{◌≡◌}
use Rattle.std.specs.Io.KnownBytes.{Keeps}
use Rattle.ddb_outside.proofs.source.StdSourceSource.read.Given as goal

-- the reads that were interrupted took nothing, and are no faults
abbrev pub invariant-loop : goal.invariant-loop
invariant-loop g l = record {
  kept : Keeps (g.R.Read.remaining l.fn.self.reader) (g.R.Read.remaining l.self.reader);
  count : l.self.faults ≡ l.fn.self.faults;
}
