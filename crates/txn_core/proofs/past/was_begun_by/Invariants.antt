use Rattle.std.proofs.Common.{◌≡◌, false, reverse, take}
use Rattle.std.specs.List.{list_any}
use Rattle.txn_core.specs.History.{is_own_begin}
use Rattle.txn_core.proofs.past.was_begun_by.Given as goal

abbrev pub invariant-loop-entry : goal.invariant-loop-entry
invariant-loop-entry g l = list_any (is_own_begin l.pass l.number) (reverse (take l.entry-index l.past)) ≡ false
