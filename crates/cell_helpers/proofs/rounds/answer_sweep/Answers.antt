use Rattle.cell_helpers.proofs.Kept.{kept_on}
use Rattle.cell_helpers.proofs.rounds.answer_sweep.Goals as goal

pub returns-in-Ok-clause-upkeep : goal.returns-in-Ok-clause-upkeep
returns-in-Ok-clause-upkeep g c = kept_on c.args.pass.now c.tick.new.pass c.recover.new.pass c.tick.ensures.upkeep c.recover.ensures.upkeep
