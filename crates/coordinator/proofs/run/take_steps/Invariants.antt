use Rattle.std.proofs.Common.{◌≡◌, ◌-◌}
use Rattle.txn_core.specs.Driver.{course_left}
use Rattle.coordinator.specs.Driving.{Advances}
use Rattle.coordinator.proofs.run.take_steps.Given as goal

abbrev pub invariant-loop-point : goal.invariant-loop-point
invariant-loop-point g l = record {
  advances : Advances (g.R.Rules.protocol (l.caller.id.slots - 1)) l.fn.pass l.fn.driver l.pass l.driver;
  same : g.G.Gate.stops l.gate ≡ g.G.Gate.stops l.fn.gate;
}

abbrev pub decreases-loop-point : goal.decreases-loop-point
decreases-loop-point g l = course_left l.driver.course
