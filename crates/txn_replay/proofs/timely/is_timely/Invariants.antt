use Rattle.std.proofs.Common.{reverse, take}
use Rattle.txn_core.specs.History.{IsTimely}
use Rattle.txn_replay.proofs.timely.is_timely.Given as goal

abbrev pub invariant-loop-entry : goal.invariant-loop-entry
invariant-loop-entry g l = IsTimely (reverse (take l.entry-index l.past)) l.pass l.moment
