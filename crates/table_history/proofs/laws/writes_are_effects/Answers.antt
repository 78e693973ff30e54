use Rattle.table_history.proofs.WriteEffects.{writes_are_effects}
use Rattle.table_history.proofs.laws.writes_are_effects.Goals as goal

pub returns : goal.returns
returns c = writes_are_effects
