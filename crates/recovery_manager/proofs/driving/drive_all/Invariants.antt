use Rattle.std.proofs.Common.{◌≡◌, ◌-◌, take}
use Rattle.std.specs.BTreeSet.{contains}
use Rattle.std.specs.Ordering.{nat_cmp}
use Rattle.recovery_manager.specs.Parts.{DrivesAll}
use Rattle.recovery_manager.proofs.driving.drive_all.Given as goal

abbrev pub invariant-loop-number : goal.invariant-loop-number
invariant-loop-number g l = record {
  drives : DrivesAll (g.R.Rules.protocol (l.caller.id.slots - 1)) (contains nat_cmp l.gone) (take l.number-index l.numbers) l.fn.pass l.pass;
  same : g.G.Gate.stops l.gate ≡ g.G.Gate.stops l.fn.gate;
}
