use Rattle.std.proofs.Common.{◌≡◌, drop, map}
use Rattle.table_model.specs.Batches.{has_twice}
use Rattle.table_batches.proofs.Gathered.{some_twice, is_seen}
use Rattle.table_batches.proofs.keys.has_twice.Given as goal

-- a key of all stands twice where one that is left was seen or stands twice
abbrev pub invariant-loop-row : goal.invariant-loop-row
invariant-loop-row g l =
    some_twice (is_seen l.seen.keys) (map g.T.Keyed.key_of (drop l.row-index l.rows)) ≡ has_twice (map g.T.Keyed.key_of l.rows)
