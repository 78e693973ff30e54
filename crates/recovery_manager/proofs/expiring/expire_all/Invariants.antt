use Rattle.std.proofs.Common.{◌-◌, ◌≤◌}
use Rattle.recovery_manager.specs.Expiries.{ExpiresFirst}
use Rattle.recovery_manager.proofs.expiring.expire_all.Given as goal

abbrev pub invariant-loop-key : goal.invariant-loop-key
invariant-loop-key g l =
    ExpiresFirst (g.R.Rules.protocol (l.caller.id.slots - 1)) l.key-index l.keys l.fn.pass l.removed l.pass × (l.removed ≤ l.key-index)
