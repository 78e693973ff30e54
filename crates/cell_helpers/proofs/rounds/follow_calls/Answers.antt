use Rattle.cell_helpers.proofs.Kept.{kept_on}
use Rattle.cell_helpers.proofs.rounds.follow_calls.Goals as goal

pub loop-preserved : goal.loop-preserved
loop-preserved g c = (
  kept_on c.args.pass.now c.answer_removal.new.pass c.feed.new.pass
      (kept_on c.args.pass.now c.loop.pass c.answer_removal.new.pass c.loop.invariant.0
      (kept_on c.loop.pass c.answer_sweep.new.pass c.answer_removal.new.pass c.answer_sweep.ensures.upkeep c.answer_removal.ensures.upkeep))
      c.feed.ensures.upkeep,
  c.feed.ensures.rests,
)
