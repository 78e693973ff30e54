use Rattle.cell_helpers.proofs.Kept.{kept_on}
use Rattle.cell_helpers.proofs.rounds.follow_feeds.Goals as goal

pub loop-preserved : goal.loop-preserved
loop-preserved g c = (
  kept_on c.args.pass.now c.loop.pass c.feed.new.pass c.loop.invariant.0
      (kept_on c.loop.pass c.tick.new.pass c.feed.new.pass c.tick.ensures.upkeep c.feed.ensures.upkeep),
  c.feed.ensures.rests,
)
