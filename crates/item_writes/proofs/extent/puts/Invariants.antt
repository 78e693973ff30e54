use Rattle.std.proofs.Common.{◌≡◌, ◌≤◌, ◌+◌, ◌-◌, ◌^◌, min, max, drop}
use Rattle.path_entries.specs.Entries.{entries_of}
use Rattle.item_writes.specs.Extents.{puts_bytes, puts_levels}
use Rattle.item_writes.specs.NewTree.{seen}
use Rattle.item_writes.proofs.extent.puts.Given as goal

abbrev pub invariant-loop-write : goal.invariant-loop-write
invariant-loop-write l =
    (l.all.bytes ≤ l.limit)
    × (min (l.all.bytes + puts_bytes l.each (seen (entries_of (drop l.write-index l.writes)))) l.limit
    ≡ min (puts_bytes l.each (seen (entries_of l.writes))) l.limit)
    × (max l.all.levels (min (puts_levels (seen (entries_of (drop l.write-index l.writes)))) (2 ^ 32 - 1))
    ≡ min (puts_levels (seen (entries_of l.writes))) (2 ^ 32 - 1))
