use Rattle.std.proofs.Common.{◌≡◌, take}
use Rattle.path_entries.specs.Entries.{entries_of}
use Rattle.projection.specs.Picked.{asked}
use Rattle.projection.proofs.picked.entries.Given as goal

abbrev pub invariant-loop-path : goal.invariant-loop-path
invariant-loop-path l = entries_of l.entries.items ≡ asked (take l.path-index l.paths)
