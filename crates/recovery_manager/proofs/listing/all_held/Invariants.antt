use Rattle.std.proofs.Common.{◌-◌}
use Rattle.recovery_manager.specs.Lists.{ListsHeld}
use Rattle.recovery_manager.proofs.listing.all_held.Given as goal

abbrev pub invariant-loop-cell : goal.invariant-loop-cell
invariant-loop-cell g l = ListsHeld (g.R.Rules.protocol (l.caller.id.slots - 1)) l.cell l.fn.pass l.held.items l.pass
