use Rattle.std.proofs.Common.{◌-◌}
use Rattle.turnstile.specs.Passes.{most_units}
use Rattle.index_feeder.proofs.Made.{FeedsOn}
use Rattle.index_feeder.proofs.draining.empty_one.Given as goal

abbrev pub invariant-feeds : goal.invariant-feeds
invariant-feeds g l = FeedsOn (g.R.Rules.protocol (l.caller.id.slots - 1)) l.fn.pass l.fed l.pass

abbrev pub decreases-feeds : goal.decreases-feeds
decreases-feeds g l = most_units - l.pass.used
