-- The items of a cell that transactions hold.
use Rattle.std.specs.Prelude.{ℕ, List, Option, option_map}
use Rattle.std.specs.List.{filter_map, flat_map}
use Rattle.std.specs.Ordering.{nat_cmp}
use Rattle.std.specs.BTreeMap.{BTreeMap, IsOrdered}
use Rattle.std.specs.declared.cmp.Ord as ord
use Rattle.std.specs.declared.cmp.PartialEq as eq
use Rattle.std.specs.declared.cmp.PartialOrd as partial
use Rattle.index_feed.specs.Feed.{Each}
use Rattle.txn_core.specs.declared.answer.HeldItem.{HeldItem}
use Rattle.item_store.specs.declared.slot.Slot.{Slot}
use Rattle.item_store.specs.declared.table.TableItems.{TableItems}

module _ {K V : Type 0} where
  -- an item with who holds it, where a transaction does
  abbrev pub held_at : K × Slot V → Option (HeldItem K)
  held_at e = option_map (λ p. record { key = e.0; number = p.number }) e.1.pending

  -- those of a table, in the order of their keys
  abbrev pub held_in_table : List (K × Slot V) → List (HeldItem K)
  held_in_table slots = filter_map held_at slots

module _ {K V : Type 0} {O : ord.Ghosts K} {E : eq.Ghosts K} {P : partial.Ghosts K} where
  -- those of all tables
  abbrev pub held_items : BTreeMap ℕ (TableItems K V O E P) → List (HeldItem K)
  held_items tables = flat_map (λ e. held_in_table e.1.slots.entries) tables.entries

  -- tables are in the order of their numbers, and the items of each in that of their keys
  pub record AreOrdered (tables : BTreeMap ℕ (TableItems K V O E P)) : Type 0 where
    pub outer : IsOrdered nat_cmp tables
    pub inner : Each (λ e. IsOrdered O.cmp e.1.slots) tables.entries
