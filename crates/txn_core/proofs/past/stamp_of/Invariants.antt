use Rattle.std.proofs.Common.{◌≡◌, reverse, take}
use Rattle.txn_core.specs.Serial.{begun_stamp}
use Rattle.txn_core.specs.History.{effects}
use Rattle.txn_core.proofs.past.stamp_of.Given as goal

abbrev pub invariant-loop-entry : goal.invariant-loop-entry
invariant-loop-entry g l = l.found ≡ begun_stamp (effects (reverse (take l.entry-index l.past))) l.number
