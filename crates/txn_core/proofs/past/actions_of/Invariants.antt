use Rattle.std.proofs.Common.{◌≡◌, reverse, take}
use Rattle.txn_core.specs.Serial.{begun_actions}
use Rattle.txn_core.specs.History.{effects}
use Rattle.txn_core.proofs.past.actions_of.Given as goal

abbrev pub invariant-loop-entry : goal.invariant-loop-entry
invariant-loop-entry g l = l.found ≡ begun_actions (effects (reverse (take l.entry-index l.past))) l.number
