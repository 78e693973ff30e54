-- The places of the outbox that a plan has set aside.
use Rattle.std.specs.Prelude.{ℕ, length, Option, None, Some}
use Rattle.std.specs.declared.cmp.Ord as ord
use Rattle.std.specs.declared.cmp.PartialEq as eq
use Rattle.std.specs.declared.cmp.PartialOrd as partial
use Rattle.index_changes.specs.declared.plan.CatalogPlan.{CatalogPlan}

module _
    {K V C N : Type 0} {O : ord.Ghosts K} {E : eq.Ghosts K} {P : partial.Ghosts K}
    {X : ord.Ghosts N} {Y : eq.Ghosts N} {Z : partial.Ghosts N} where
  -- one for each change that a plan queues
  abbrev pub places_of : Option (CatalogPlan K V C N O E P X Y Z) → ℕ
  places_of None = 0
  places_of (Some p) = length p.changes.items
