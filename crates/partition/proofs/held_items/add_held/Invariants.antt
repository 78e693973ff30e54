use Rattle.std.proofs.Common.{◌≡◌, ◌++◌}
use Rattle.partition.specs.Pendings.{held_in_table}
use Rattle.partition.proofs.held_items.add_held.Given as goal

abbrev pub invariant-loop-key : goal.invariant-loop-key
invariant-loop-key g l = l.held.items ++ held_in_table l.key-iterator ≡ l.initial.held.items ++ held_in_table l.items.slots.entries
