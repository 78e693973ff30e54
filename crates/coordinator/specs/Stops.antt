-- How an end goes with the stops that a gate counts.
use Rattle.std.specs.Prelude.{◌≡◌, ℕ, ◌≤◌}
use Rattle.ddb_outside.specs.Causes.{Rose}

-- the count rose where this is so, never falls, and stays in every other case
pub record Stops (stop : Type 0) (before now : ℕ) : Type 0 where
  pub stopped : stop → Rose before now
  pub later : before ≤ now
  pub obeyed : (stop → ⊥) → now ≡ before
