use Rattle.std.proofs.Common.{◌-◌}
use Rattle.index_feeder.specs.Feeds.{GoesRound}
use Rattle.index_feeder.proofs.draining.feed_round.Given as goal

abbrev pub invariant-loop-cell : goal.invariant-loop-cell
invariant-loop-cell g l = GoesRound (g.R.Rules.protocol (l.caller.id.slots - 1)) l.cell l.fn.pass l.fed l.pass
