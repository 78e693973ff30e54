use Rattle.std.proofs.Common.{◌≡◌, ◌*◌, ◌^◌, ◌<◌, ◌≤◌}
use Rattle.number38.proofs.scaled.Scaled.stripped.Given as goal

abbrev pub invariant-loop-coefficient : goal.invariant-loop-coefficient
invariant-loop-coefficient l = record {
  some : 0 < l.coefficient;
  same : l.coefficient * 10 ^ l.zeros ≡ l.self.coefficient;
  shorter : l.coefficient ≤ l.self.coefficient;
  few : l.zeros < 39;
}

abbrev pub decreases-loop-coefficient : goal.decreases-loop-coefficient
decreases-loop-coefficient l = l.coefficient
