-- The rows that a walk meets, in order.
use Rattle.std.specs.Prelude.{Bool, true, false, List, filter, reverse, Option, None, Some}
use Rattle.std.specs.declared.cmp.Ordering.{Ordering}
use Rattle.std.specs.Ordering.{is_lt}

-- the rows as a walk in this direction meets them
abbrev pub in_direction : {X : Type 0} → Bool → List X → List X
in_direction true rows = rows
in_direction false rows = reverse rows

module _ {K : Type 0} (cmp : K → K → Ordering) where
  -- the order of places as a walk in this direction meets them
  abbrev pub walk_order : Bool → K → K → Ordering
  walk_order true place other = cmp place other
  walk_order false place other = cmp other place

module _ {K X : Type 0} (cmp : K → K → Ordering) where
  -- the rows strictly after a place, or all of them, as a walk in this direction meets them
  abbrev pub rows_after : Bool → Option K → List (K × X) → List (K × X)
  rows_after forward None rows = in_direction forward rows
  rows_after forward (Some place) rows =
      filter (λ row. is_lt (walk_order cmp forward place row.0)) (in_direction forward rows)
