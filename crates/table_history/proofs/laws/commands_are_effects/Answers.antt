use Rattle.table_history.proofs.CommandEffects.{commands_are_effects}
use Rattle.table_history.proofs.laws.commands_are_effects.Goals as goal

pub returns : goal.returns
returns c = commands_are_effects
