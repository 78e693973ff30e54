use Rattle.std.specs.Vec.Iter.{into_iter_items}
use Rattle.transact_writes.specs.Aimed.{database_of}
use Rattle.transact_writes.proofs.Checks.{AreLeft}
use Rattle.transact_writes.proofs.aim.aim_all.Given as goal

abbrev pub invariant-loop-action : goal.invariant-loop-action
invariant-loop-action l = AreLeft (database_of l.tables.entries) l.fn.actions l.all (into_iter_items l.action-iterator)
