-- What a gate answers that stops at one point, or never.
use Rattle.std.specs.Prelude.{◌≡◌, ◌↔◌, Some}
use Rattle.coordinator.specs.declared.gate.Pace.{Pace}
use Rattle.coordinator.specs.declared.gate.Point.{Point}
use Rattle.table_load.specs.declared.gates.PointGate.{PointGate}

-- it stops exactly at its point, if it has one, which stays
pub record StopsAtPoint (old : PointGate) (point : Point) (pace : Pace) (new : PointGate) : Type 0 where
  pub stops : (pace ≡ Pace.Stop) ↔ (old.point ≡ Some point)
  pub same : new.point ≡ old.point
