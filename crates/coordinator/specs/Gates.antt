-- What a gate in memory was made with, and what it answers.
use Rattle.std.specs.Prelude.{◌≡◌, ◌↔◌, List, Any}
use Rattle.coordinator.specs.declared.gate.Pace.{Pace}
use Rattle.coordinator.specs.declared.gate.Point.{Point}
use Rattle.coordinator.specs.declared.gate.ScriptGate.{ScriptGate}

-- the points at which it stops
abbrev pub points_of : ScriptGate → List Point
points_of g = g.stops_at

-- asked at a point it stops exactly where that is one of its points, which stay
pub record Scripted (old : ScriptGate) (point : Point) (pace : Pace) (new : ScriptGate) : Type 0 where
  pub stops : (pace ≡ Pace.Stop) ↔ Any (λ p. p ≡ point) (points_of old)
  pub same : points_of new ≡ points_of old
