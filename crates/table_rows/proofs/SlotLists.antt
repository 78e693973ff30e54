-- The rows that slots are, where one slot changes.
use Rattle.std.specs.List.{AllByRecursion}
use Rattle.std.specs.List.Sorted.{IsStrictlySortedBy}
use Rattle.std.specs.Map.{keys_of, lookup, remove_entry}
use Rattle.std.specs.BTreeMap.{is_at}
use Rattle.std.specs.declared.cmp.Ordering.TheVariants.{Less}
use Rattle.std.proofs.Common.{◌≡◌, Bool, true, false, cond, [], ◌∷◌, Option, None, Some, is_some, Result, Ok, Err, OnOk, OnErr, refl, sym, ap, ◌∙◌}
use Rattle.std.proofs.lemmas.Bool.{cond-true, cond-false}
use Rattle.attr_value.specs.Tree.{Attributes}
use Rattle.row_keys.specs.declared.row_key.RowKey.{RowKey}
use Rattle.row_keys.specs.Keys.{row_order}
use Rattle.row_keys.specs.KeyLaws.{row_total}
use Rattle.row_keys.specs.Rows.{Rows, item_at, with_item}
use Rattle.table_rows.specs.Slots.{SlotList, row_if, rows_of, has_slot}
use Rattle.table_rows.proofs.Entries.{by_bool, past_head, same_entries, sorted_in, lookup_in, sorted_out, lookup_out}
use Rattle.table_rows.proofs.Exact.{row_exact}

pub none_from : {X : Type 0} (o : Option X) → is_some o ≡ false → o ≡ None
none_from None e = refl
none_from (Some x) e = absurd (cc)

-- the item in a slot that may be there
abbrev pub item_in : Option (Option Attributes) → Option Attributes
item_in None = None
item_in (Some item) = item

all_rows : (P : RowKey → Type 0) (slots : SlotList) → AllByRecursion P (keys_of slots) → AllByRecursion P (keys_of (rows_of slots))
all_rows P [] all = tt
all_rows P (slot ∷ slots) all = go slot.1 (all_rows P slots all.1)
  where
    go : (item : Option Attributes) → AllByRecursion P (keys_of (rows_of slots)) → AllByRecursion P (keys_of (row_if slot.0 item (rows_of slots)))
    go None h = h
    go (Some item) h = (all.0, h)

pub rows_sorted : (slots : SlotList) → IsStrictlySortedBy row_order (keys_of slots) → IsStrictlySortedBy row_order (keys_of (rows_of slots))
unfolding IsStrictlySortedBy
rows_sorted [] s = tt
rows_sorted (slot ∷ slots) s = go slot.1 (rows_sorted slots s.1)
  where
    go : (item : Option Attributes) → IsStrictlySortedBy row_order (keys_of (rows_of slots))
        → IsStrictlySortedBy row_order (keys_of (row_if slot.0 item (rows_of slots)))
    go None h = h
    go (Some item) h = (all_rows (λ y. row_order slot.0 y ≡ Less) slots s.0, h)

module _ (slot : RowKey × Option Attributes) (slots : SlotList) (q : RowKey) where
  found : (item : Option Attributes) → item_at (rows_of slots) q ≡ None → is_at (row_order q) slot.0 ≡ true → item_at (row_if slot.0 item (rows_of slots)) q ≡ item
  found None none h = none
  found (Some item) none h = cond-true (is_at (row_order q) slot.0) (Some item) (item_at (rows_of slots) q) h

  passed : (item : Option Attributes) → is_at (row_order q) slot.0 ≡ false → item_at (row_if slot.0 item (rows_of slots)) q ≡ item_at (rows_of slots) q
  passed None h = refl
  passed (Some item) h = cond-false (is_at (row_order q) slot.0) (Some item) (item_at (rows_of slots) q) h

-- the item at a key is the one in its slot
pub rows_at : (slots : SlotList) → IsStrictlySortedBy row_order (keys_of slots) → (q : RowKey) → item_at (rows_of slots) q ≡ item_in (lookup (is_at (row_order q)) slots)
unfolding IsStrictlySortedBy
rows_at [] s q = refl
rows_at (slot ∷ slots) s q = by_bool (is_at (row_order q) slot.0) _
    (λ h. found slot slots q slot.1 (rows_at slots s.1 q ∙ ap item_in (past_head row_total q slot slots s h)) h
    ∙ ap item_in (sym (cond-true (is_at (row_order q) slot.0) (Some slot.1) (lookup (is_at (row_order q)) slots) h)))
    (λ h. passed slot slots q slot.1 h ∙ rows_at slots s.1 q
    ∙ ap item_in (sym (cond-false (is_at (row_order q) slot.0) (Some slot.1) (lookup (is_at (row_order q)) slots) h)))

-- where there is an item there is a slot
pub slot_filled : (slots : SlotList) → IsStrictlySortedBy row_order (keys_of slots) → (q : RowKey) → is_some (item_at (rows_of slots) q) ≡ true
    → has_slot slots q ≡ is_some (item_at (rows_of slots) q)
slot_filled slots up q there = go (lookup (is_at (row_order q)) slots) (ap is_some (sym (rows_at slots up q)) ∙ there) ∙ sym there
  where
    go : (slot : Option (Option Attributes)) → is_some (item_in slot) ≡ true → is_some slot ≡ true
    go None h = absurd (cc)
    go (Some item) h = refl

pub with_sorted : (rows : Rows) (k : RowKey) (item : Option Attributes) → IsStrictlySortedBy row_order (keys_of rows)
    → IsStrictlySortedBy row_order (keys_of (with_item rows k item))
with_sorted rows k None s = sorted_out row_total row_exact (is_at (row_order k)) rows s
with_sorted rows k (Some item) s = sorted_in row_total row_exact k item rows s

pub with_at : (rows : Rows) (k : RowKey) (item : Option Attributes) → IsStrictlySortedBy row_order (keys_of rows)
    → (q : RowKey) → item_at (with_item rows k item) q ≡ cond (is_at (row_order k) q) item (item_at rows q)
with_at rows k None s q = lookup_out row_total row_exact q k rows s
with_at rows k (Some item) s q = lookup_in row_total row_exact q k item rows

some_none : (item : Attributes) → Some item ≡ None → ⊥
some_none item e = absurd (cc)

-- no item at a key where there is none
pub with_none : (rows : Rows) (k : RowKey) → item_at rows k ≡ None → with_item rows k None ≡ rows
with_none [] k none = refl
with_none (row ∷ rows) k none = by_bool (is_at (row_order k) row.0) _
    (λ h. absurd (some_none row.1 (sym (cond-true (is_at (row_order k) row.0) (Some row.1) (item_at rows k) h) ∙ none)))
    (λ h. cond-false (is_at (row_order k) row.0) rows (row ∷ remove_entry (is_at (row_order k)) rows) h
    ∙ ap (λ l. row ∷ l) (with_none rows k (sym (cond-false (is_at (row_order k) row.0) (Some row.1) (item_at rows k) h) ∙ none)))

module _ (old new : SlotList) (up : IsStrictlySortedBy row_order (keys_of old)) (sorted : IsStrictlySortedBy row_order (keys_of new)) (k : RowKey)
    (slot : Option (Option Attributes)) (change : (q : RowKey) → lookup (is_at (row_order q)) new ≡ cond (is_at (row_order k) q) slot (lookup (is_at (row_order q)) old)) where
  spread : (b : Bool) (other : Option (Option Attributes)) → item_in (cond b slot other) ≡ cond b (item_in slot) (item_in other)
  spread true other = refl
  spread false other = refl

  -- a slot that is written is a row that is written
  pub slot_changed : rows_of new ≡ with_item (rows_of old) k (item_in slot)
  slot_changed =
      same_entries row_total row_exact (rows_of new) (with_item (rows_of old) k (item_in slot))
      (rows_sorted new sorted) (with_sorted (rows_of old) k (item_in slot) (rows_sorted old up))
      (λ q. rows_at new sorted q ∙ ap item_in (change q) ∙ spread (is_at (row_order k) q) (lookup (is_at (row_order q)) old)
      ∙ ap (λ l. cond (is_at (row_order k) q) (item_in slot) l) (sym (rows_at old up q))
      ∙ sym (with_at (rows_of old) k (item_in slot) (rows_sorted old up) q))

  -- a slot without an item where there was no item
  pub slot_blank : item_at (rows_of old) k ≡ None → item_in slot ≡ None → rows_of new ≡ rows_of old
  slot_blank none blank = slot_changed ∙ ap (with_item (rows_of old) k) blank ∙ with_none (rows_of old) k none

-- a key that has a slot is not absent
pub not_refused : {A E X : Type 0} (r : Result A E) (P : Type 0) (slot : Option X) → OnOk r P → OnErr r (slot ≡ None) → is_some slot ≡ true → P
not_refused (Ok a) P slot p absent has = p
not_refused (Err e) P None p absent has = absurd (cc)
not_refused (Err e) P (Some x) p absent has = let gone : Some x ≡ None = absent in absurd (cc)
