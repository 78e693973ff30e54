use Rattle.std.proofs.Common.{◌≡◌, take}
use Rattle.item_writes.specs.NewTree.{seen}
use Rattle.path_entries.specs.Entries.{entries_of}
use Rattle.update_eval.specs.Views.{seen_writes}
use Rattle.update_eval.proofs.update.entries.Given as goal

abbrev pub invariant-loop-write : goal.invariant-loop-write
invariant-loop-write l = seen (entries_of l.entries.items) ≡ seen_writes (take l.write-index l.writes)
