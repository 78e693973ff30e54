use Rattle.cell_helpers.proofs.Kept.{kept_on}
use Rattle.cell_helpers.proofs.rounds.remove.Goals as goal

pub loop-cell-preserved : goal.loop-cell-preserved
loop-cell-preserved g c = (
  kept_on c.args.pass.now c.loop-cell.pass c.remove_some.new.pass c.loop-cell.invariant.0 c.remove_some.ensures.upkeep,
  c.remove_some.ensures.rests,
)
