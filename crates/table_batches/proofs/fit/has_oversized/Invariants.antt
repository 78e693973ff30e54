use Rattle.std.proofs.Common.{◌≡◌, drop}
use Rattle.std.specs.List.{list_any}
use Rattle.table_model.specs.Batches.{is_oversized}
use Rattle.table_batches.proofs.fit.has_oversized.Given as goal

abbrev pub invariant-loop-write : goal.invariant-loop-write
invariant-loop-write l = list_any is_oversized (drop l.write-index l.writes) ≡ list_any is_oversized l.writes
