use Rattle.std.proofs.Common.{◌-◌}
use Rattle.turnstile.specs.Passes.{most_units}
use Rattle.index_feeder.proofs.Made.{RoundsOn}
use Rattle.index_feeder.proofs.draining.drain.Given as goal

abbrev pub invariant-rounds : goal.invariant-rounds
invariant-rounds g l = RoundsOn (g.R.Rules.protocol (l.caller.id.slots - 1)) (l.caller.id.slots - 1) l.fn.pass l.fed l.pass

abbrev pub decreases-rounds : goal.decreases-rounds
decreases-rounds g l = most_units - l.pass.used
