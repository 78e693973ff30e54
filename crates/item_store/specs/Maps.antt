-- What the slots of a table are together, and those of all tables of a cell.
use Rattle.std.specs.Prelude.{◌≡◌, ℕ, Option, if◌then◌else◌}
use Rattle.std.specs.BTreeMap.{BTreeMap, get, is_at, values}
use Rattle.std.specs.List.{sum_by}
use Rattle.std.specs.declared.cmp.Ordering.{Ordering}
use Rattle.item_store.specs.declared.slot.Slot.{Slot}
use Rattle.item_store.specs.Slots.{held_in}

module _ {K V : Type 0} where
  -- how many items of a table are held
  abbrev pub held_among : BTreeMap K (Slot V) → ℕ
  held_among m = sum_by held_in (values m)

module _ {K V : Type 0} (cmp : K → K → Ordering) where
  -- the key has this slot afterwards, and each other key its own
  abbrev pub Places : BTreeMap K (Slot V) → BTreeMap K (Slot V) → K → Option (Slot V) → Type 0
  Places m n k new = (q : K) → get cmp n q ≡ (if is_at (cmp k) q then new else get cmp m q)
