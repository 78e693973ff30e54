-- The rows that slots and places of an index show, where nothing is prepared.
use Rattle.std.specs.Prelude.{ℕ, is_some, slice_get, IfSome}
use Rattle.std.specs.List.{AllByRecursion}
use Rattle.std.specs.List.Sorted.{IsStrictlySortedBy}
use Rattle.std.specs.Map.{keys_of, lookup}
use Rattle.std.specs.BTreeMap.{is_at}
use Rattle.std.specs.BTreeMap.Range.{entries_between, range_contains}
use Rattle.std.specs.declared.ops.Bound.{Bound}
use Rattle.std.proofs.Common.{◌≡◌, Bool, true, false, cond, List, [], ◌∷◌, Option, None, Some, refl, sym, ap, ◌∙◌, subst}
use Rattle.attr_value.specs.Tree.{Attributes}
use Rattle.table_schema.specs.declared.keys.KeyNames.{KeyNames}
use Rattle.table_schema.specs.declared.schema.Schema.{Schema}
use Rattle.row_keys.specs.declared.position.Position.{Position}
use Rattle.row_keys.specs.declared.row_key.RowKey.{RowKey}
use Rattle.row_keys.specs.Keys.{row_order, position_order}
use Rattle.row_keys.specs.KeyLaws.{row_total, position_total}
use Rattle.row_keys.specs.Rows.{Rows, Entries, item_at, index_of, index_keys}
use Rattle.table_rows.specs.declared.change.RowChange.{RowChange}
use Rattle.table_rows.specs.Found.{entry_if, found_for}
use Rattle.table_rows.specs.Places.{PlaceList, IndexView, places_of}
use Rattle.table_rows.specs.Slots.{SlotList, row_if, rows_of, AllFilled}
use Rattle.table_rows.specs.State.{told, AreInStep, IsIndex, IsKept}
use Rattle.table_rows.specs.Looked.{looked, AllThere}
use Rattle.table_rows.proofs.Entries.{each_found}
use Rattle.table_rows.proofs.Exact.{row_exact, position_exact}
use Rattle.table_rows.proofs.SlotLists.{item_in, rows_at}
use Rattle.table_rows.proofs.Found.{all_filter}
use Rattle.table_rows.proofs.Listed.{or_false, index_sorted, index_found, places_are, places_in_range, nth, keys_at}

-- ---- slots

-- the rows are the items that are found in the slots
pub rows_found : (slots : SlotList) → found_for (λ slot. slot.1) slots ≡ rows_of slots
rows_found [] = refl
rows_found (slot ∷ slots) = go slot.0 slot.1 (found_for (λ slot. slot.1) slots) (rows_of slots) (rows_found slots)
  where
    go : (key : RowKey) (item : Option Attributes) (found rows : Rows) → found ≡ rows → entry_if key item found ≡ row_if key item rows
    go key None found rows h = h
    go key (Some item) found rows h = ap (λ (l : Rows). (key, item) ∷ l) h

module _ (slots : SlotList) (up : IsStrictlySortedBy row_order (keys_of slots)) (step : AreInStep slots []) where
  filled_from : (some : SlotList) → AllByRecursion (λ slot. lookup (is_at (row_order slot.0)) slots ≡ Some slot.1) some → AllFilled some
  filled_from [] all = tt
  filled_from (slot ∷ some) all = (
    ap (λ o. is_some (item_in o)) (sym all.0) ∙ ap is_some (sym (rows_at slots up slot.0))
        ∙ sym (or_false (is_some (item_at (rows_of slots) slot.0))) ∙ sym (step slot.0) ∙ ap is_some all.0,
    filled_from some all.1,
  )

  -- where nothing is prepared each slot has an item
  pub filled_between : (low high : Bound RowKey) → AllFilled (entries_between row_order low high slots)
  filled_between low high =
      all_filter (λ slot. is_some slot.1 ≡ true) (λ slot. range_contains row_order low high slot.0) slots
      (filled_from slots (each_found row_total row_exact slots up))

-- ---- the rows of an index

some_of : (b : Bool) (o : Option Attributes) (item : Attributes) → cond b o None ≡ Some item → o ≡ Some item
some_of true o item h = h
some_of false o item h = absurd (cc)

module _ (schema : Schema) (keys : KeyNames) (rows : Rows) (up : IsStrictlySortedBy row_order (keys_of rows)) where
  of_found : (es : Entries) → AllByRecursion (λ e. lookup (is_at (position_order e.0)) (index_of schema keys rows) ≡ Some e.1) es
      → AllByRecursion (λ e. item_at rows e.0.item ≡ Some e.1) es
  of_found [] all = tt
  of_found (e ∷ es) all = (
    some_of (told schema keys rows e.0) (item_at rows e.0.item) e.1 (sym (index_found schema keys rows up e.0) ∙ all.0),
    of_found es all.1,
  )

  -- each row of an index is the item of its key
  items_there : AllByRecursion (λ e. item_at rows e.0.item ≡ Some e.1) (index_of schema keys rows)
  items_there = of_found (index_of schema keys rows)
      (each_found position_total position_exact (index_of schema keys rows) (index_sorted schema keys rows))

looked_places : (rows : Rows) (es : Entries) → AllByRecursion (λ e. item_at rows e.0.item ≡ Some e.1) es → looked rows (places_of es) ≡ es
looked_places rows [] all = refl
looked_places rows (e ∷ es) all = (λ i. entry_if e.0 (all.0 i) (looked_places rows es all.1 i))

there_places : (rows : Rows) (es : Entries) → AllByRecursion (λ e. item_at rows e.0.item ≡ Some e.1) es → AllThere rows (places_of es)
there_places rows [] all = tt
there_places rows (e ∷ es) all = (ap is_some all.0, there_places rows es all.1)

module _ (schema : Schema) (slots : SlotList) (pending : List RowChange) (xs : List IndexView) (kept : IsKept schema slots pending xs) (none : pending ≡ [])
    (n : ℕ) (x : IndexView) (found : slice_get xs n ≡ Some x) (up : IsStrictlySortedBy position_order (keys_of x.places)) (low high : Bound Position) where
  between : entries_between position_order low high x.places ≡ places_of (entries_between position_order low high (index_of schema x.keys (rows_of slots)))
  between =
      let is : IsIndex schema (rows_of slots) [] x = subst (λ p. IsIndex schema (rows_of slots) p x) none (nth (IsIndex schema (rows_of slots) pending) xs n x kept.in_step found) in
      ap (λ (es : PlaceList). entries_between position_order low high es) (places_are schema (rows_of slots) x kept.ordered up is)
      ∙ places_in_range low high (index_of schema x.keys (rows_of slots))

  items : AllByRecursion (λ e. item_at (rows_of slots) e.0.item ≡ Some e.1) (entries_between position_order low high (index_of schema x.keys (rows_of slots)))
  items =
      all_filter (λ e. item_at (rows_of slots) e.0.item ≡ Some e.1) (λ e. range_contains position_order low high e.0) (index_of schema x.keys (rows_of slots))
      (items_there schema x.keys (rows_of slots) kept.ordered)

  -- at each place between two ends an item stands
  pub all_there : AllThere (rows_of slots) (entries_between position_order low high x.places)
  all_there = subst (AllThere (rows_of slots)) (sym between) (there_places (rows_of slots) _ items)

  -- the places between two ends with their items are the rows of the index there
  pub rows_there : IfSome (slice_get (index_keys schema) n) (λ keys. looked (rows_of slots) (entries_between position_order low high x.places)
      ≡ entries_between position_order low high (index_of schema keys (rows_of slots)))
  rows_there =
      subst (λ ks. IfSome (slice_get ks n) (λ keys. looked (rows_of slots) (entries_between position_order low high x.places)
      ≡ entries_between position_order low high (index_of schema keys (rows_of slots)))) kept.have_keys
      (subst (λ o. IfSome o (λ keys. looked (rows_of slots) (entries_between position_order low high x.places)
      ≡ entries_between position_order low high (index_of schema keys (rows_of slots)))) (sym (keys_at xs n x found))
      (ap (looked (rows_of slots)) between ∙ looked_places (rows_of slots) _ items))
