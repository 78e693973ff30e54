-- How many items of the tables are held, after one table changed.
use Rattle.std.specs.Ordering.{nat_cmp}
use Rattle.std.specs.Option.{option_map, unwrap_or}
use Rattle.std.specs.BTreeMap.{BTreeMap, IsOrdered, get, insert_entry, is_at}
use Rattle.std.specs.Map.{remove_entry, set_value}
use Rattle.std.proofs.lemmas.Cmp.{nat_cmp_total}
use Rattle.std.specs.declared.cmp.Ord as ord
use Rattle.std.specs.declared.cmp.PartialEq as eq
use Rattle.std.specs.declared.cmp.PartialOrd as partial
use Rattle.std.proofs.Common.{◌≡◌, ℕ, ◌+◌, ◌≤◌, false, IsTrue, Option, None, Some, is_some, Result, Ok, Err, OnErr, refl, arith}
use Rattle.item_store.specs.declared.table.TableItems.{TableItems}
use Rattle.txn_core.specs.Answers.{is_holder}
use Rattle.item_store.specs.Maps.{held_among}
use Rattle.item_store.specs.Slots.{holder_of}
use Rattle.item_store.specs.Tables.{has_table, held_of, held_under, slot_in, slot_under}
use Rattle.item_store.proofs.Weights.{holds_one, part_of, swapped, with_one, without}

-- what holds anyway holds where the answer is an error
pub on_err : {A B X : Type 0} (r : Result A B) → X → OnErr r X
on_err (Ok a) x = tt
on_err (Err e) x = x

module _ {K V : Type 0} {O : ord.Ghosts K} {E : eq.Ghosts K} {P : partial.Ghosts K} where
  pub table_swapped :
      (m n : BTreeMap ℕ (TableItems K V O E P)) (u : ℕ) (old new : TableItems K V O E P) → get nat_cmp m u ≡ Some old
      → n.entries ≡ set_value (is_at (nat_cmp u)) m.entries new → held_under n + old.held ≡ held_under m + new.held
  table_swapped m n u old new found e = swapped (λ items. items.held) nat_cmp m n u old new found e

  pub same_held :
      (m n : BTreeMap ℕ (TableItems K V O E P)) (u : ℕ) (old new : TableItems K V O E P) → get nat_cmp m u ≡ Some old
      → n.entries ≡ set_value (is_at (nat_cmp u)) m.entries new → new.held ≡ old.held → held_under n ≡ held_under m
  same_held m n u old new found e same = let sum = table_swapped m n u old new found e in omega arith

  pub one_more :
      (m n : BTreeMap ℕ (TableItems K V O E P)) (u : ℕ) (old new : TableItems K V O E P) → get nat_cmp m u ≡ Some old
      → n.entries ≡ set_value (is_at (nat_cmp u)) m.entries new → new.held ≡ old.held + 1 → held_under n ≡ held_under m + 1
  one_more m n u old new found e more = let sum = table_swapped m n u old new found e in omega arith

  pub one_less :
      (m n : BTreeMap ℕ (TableItems K V O E P)) (u : ℕ) (old new : TableItems K V O E P) → get nat_cmp m u ≡ Some old
      → n.entries ≡ set_value (is_at (nat_cmp u)) m.entries new → new.held + 1 ≡ old.held → held_under n + 1 ≡ held_under m
  one_less m n u old new found e less = let sum = table_swapped m n u old new found e in omega arith

  held_or : (o : Option (TableItems K V O E P)) → unwrap_or (option_map (λ items. items.held) o) 0 ≡ held_of o
  held_or None = refl
  held_or (Some items) = refl

  none_held : (o : Option (TableItems K V O E P)) → is_some o ≡ false → held_of o ≡ 0
  none_held None e = refl
  none_held (Some items) e = absurd (cc)

  pub closed :
      (m n : BTreeMap ℕ (TableItems K V O E P)) (u : ℕ) → n.entries ≡ remove_entry (is_at (nat_cmp u)) m.entries
      → held_under n + held_of (get nat_cmp m u) ≡ held_under m
  closed m n u e =
      let sum = without (λ (items : TableItems K V O E P). items.held) nat_cmp m n u e in
      let same = held_or (get nat_cmp m u) in
      omega arith

  pub opened :
      (m n : BTreeMap ℕ (TableItems K V O E P)) (u : ℕ) (x : TableItems K V O E P) → IsOrdered nat_cmp m
      → n.entries ≡ insert_entry nat_cmp m.entries u x → has_table m u ≡ false → x.held ≡ 0 → held_under n ≡ held_under m
  opened m n u x order e new empty =
      let sum = with_one (λ (items : TableItems K V O E P). items.held) nat_cmp nat_cmp_total m n u x order e in
      let same = held_or (get nat_cmp m u) in
      let none = none_held (get nat_cmp m u) new in
      omega arith

  -- where an item is held, one is
  pub one_held :
      (m : BTreeMap ℕ (TableItems K V O E P)) (u : ℕ) (k : K) (n : ℕ) → IsTrue (is_holder (holder_of (slot_under m u k)) n)
      → 1 ≤ held_under m
  one_held m u k n h = by_table (get nat_cmp m u) refl h
    where
      by_table :
          (o : Option (TableItems K V O E P)) → get nat_cmp m u ≡ o → IsTrue (is_holder (holder_of (slot_in o k)) n) → 1 ≤ held_under m
      by_table None e h = absurd (cc)
      by_table (Some items) e h =
          let one : 1 ≤ held_among items.slots = holds_one O.cmp items.slots k n h in
          let counted : items.held ≡ held_among items.slots = items.counted in
          let part : items.held ≤ held_under m = part_of (λ (t : TableItems K V O E P). t.held) nat_cmp m u items e in
          omega arith
