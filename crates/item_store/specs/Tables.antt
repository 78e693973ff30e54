-- What the tables of a cell have at a key.
use Rattle.std.specs.Prelude.{◌≡◌, ℕ, Bool, ◌&&◌, Option, None, Some, is_some, if◌then◌else◌}
use Rattle.std.specs.Ordering.{nat_cmp}
use Rattle.std.specs.BTreeMap.{BTreeMap, get, is_at, values}
use Rattle.std.specs.List.{sum_by}
use Rattle.std.specs.declared.cmp.Ord as ord
use Rattle.std.specs.declared.cmp.PartialEq as eq
use Rattle.std.specs.declared.cmp.PartialOrd as partial
use Rattle.item_store.specs.declared.slot.Slot.{Slot}
use Rattle.item_store.specs.declared.table.TableItems.{TableItems}

module _ {K V : Type 0} {O : ord.Ghosts K} {E : eq.Ghosts K} {P : partial.Ghosts K} where
  -- the slot of a key, where its table is there
  abbrev pub slot_in : Option (TableItems K V O E P) → K → Option (Slot V)
  slot_in None q = None
  slot_in (Some items) q = get O.cmp items.slots q

  -- the table is there
  abbrev pub has_table : BTreeMap ℕ (TableItems K V O E P) → ℕ → Bool
  has_table tables u = is_some (get nat_cmp tables u)

  -- the slot of a key of a table
  abbrev pub slot_under : BTreeMap ℕ (TableItems K V O E P) → ℕ → K → Option (Slot V)
  slot_under tables u q = slot_in (get nat_cmp tables u) q

  -- how many items of the tables are held
  abbrev pub held_under : BTreeMap ℕ (TableItems K V O E P) → ℕ
  held_under tables = sum_by (λ items. items.held) (values tables)

  -- the key of the table has this slot afterwards, each other one its own, and the same tables are there
  pub record PlacesUnder (s t : BTreeMap ℕ (TableItems K V O E P)) (u : ℕ) (k : K) (new : Option (Slot V)) : Type 0 where
    pub slots : (v : ℕ) (q : K) → slot_under t v q ≡ (if is_at (nat_cmp u) v && is_at (O.cmp k) q then new else slot_under s v q)
    pub tables : (v : ℕ) → has_table t v ≡ has_table s v

  -- each key has its own slot, and the same tables are there
  pub record Same (s t : BTreeMap ℕ (TableItems K V O E P)) : Type 0 where
    pub slots : (v : ℕ) (q : K) → slot_under t v q ≡ slot_under s v q
    pub tables : (v : ℕ) → has_table t v ≡ has_table s v

  -- how many items of a table are held
  abbrev pub held_of : Option (TableItems K V O E P) → ℕ
  held_of None = 0
  held_of (Some items) = items.held
