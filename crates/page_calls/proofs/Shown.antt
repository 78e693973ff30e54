-- The rows that a cell has of a table are those that readers are shown there.
use Rattle.std.specs.List.{AllByRecursion, filter, list_any}
use Rattle.std.specs.List.Sorted.{IsStrictlySortedBy}
use Rattle.std.specs.BTreeMap.{is_at}
use Rattle.std.specs.Map.{keys_of, lookup}
use Rattle.std.proofs.Common.{◌≡◌, ℕ, Bool, true, false, ◌||◌, nat_eq, cond, List, [], ◌∷◌, Option, None, Some, is_some, option_and_then, refl, sym, ap, subst, ◌∙◌, Less}
use Rattle.std.proofs.lemmas.Bool.{eqb-true, eq-eqb}
use Rattle.std.proofs.lemmas.List.Kept.{IsStrictlySortedBy-filter}
use Rattle.std.proofs.lemmas.Map.Entries.{lookup-filter-keys}
use Rattle.attr_value.specs.Tree.{Attributes}
use Rattle.index_feed.specs.Feed.{Each}
use Rattle.index_feed.specs.Laws.{AreInOrder, IsListOf}
use Rattle.txn_core.specs.Indexing.{indexed}
use Rattle.table_schema.specs.declared.keys.KeyNames.{KeyNames}
use Rattle.table_schema.specs.declared.schema.Schema.{Schema}
use Rattle.row_keys.specs.declared.position.Position.{Position}
use Rattle.row_keys.specs.declared.row_key.RowKey.{RowKey}
use Rattle.row_keys.specs.Keys.{position_order, row_order}
use Rattle.row_keys.specs.KeyLaws.{position_total, row_total}
use Rattle.row_keys.specs.Rows.{Rows, index_of, item_at, position, table_entries}
use Rattle.table_rows.specs.Moves.{is_place, spot_of}
use Rattle.table_rows.proofs.Entries.{at_is, flip, same_entries}
use Rattle.table_rows.proofs.Exact.{position_exact, row_exact}
use Rattle.table_rows.proofs.Listed.{index_found, index_sorted}
use Rattle.table_pages.proofs.Walked.{filter_made}
use Rattle.cell_model.specs.declared.key.CellKey.{CellKey}
use Rattle.cell_model.specs.Keys.{cell_at, key_order, place_of}
use Rattle.cell_model.specs.KeyLaws.{key_total}
use Rattle.cell_model.specs.Pages.{CellRows, items_of}
use Rattle.cell_model.specs.Service.{indexing, protocol}
use Rattle.cell_model.proofs.Exact.{key_exact}
use Rattle.cell_pages.specs.Walked.{shown_among}
use Rattle.cell_entries.proofs.Parts.{part_found, part_rises}
use Rattle.cell_entries.proofs.Rows.{are_own, item_key, own_back, own_items, own_key, own_order, own_there, shown_at}
use Rattle.page_calls.specs.Pages.{is_in_cell}

-- ---- the rows of a cell, by their keys

module _ (n i : ℕ) (row : CellKey → Option Attributes) (rows : CellRows) (listed : IsListOf (indexed (protocol n) indexing) i row rows) where
  below : (key : CellKey) (rs : CellRows) → Each (λ (s : CellKey × Attributes). key_order key s.0 ≡ Less) rs → AllByRecursion (λ y. key_order key y ≡ Less) (keys_of rs)
  below key [] all = tt
  below key (r ∷ rs) all = (all.0, below key rs all.1)

  rising : (rs : CellRows) → AreInOrder (indexed (protocol n) indexing) rs → IsStrictlySortedBy key_order (keys_of rs)
  unfolding IsStrictlySortedBy
  rising [] order = tt
  rising (r ∷ rs) order = (below r.0 rs order.0, rising rs order.1)

  pub rows_rise : IsStrictlySortedBy key_order (keys_of rows)
  rows_rise = rising rows listed.in_order

  -- what is found has the key, and stands there
  found_is : (key : CellKey) (v : Attributes) (rs : CellRows) → Each (λ (r : CellKey × Attributes). (cell_at n (place_of r.0) ≡ i) × (row r.0 ≡ Some r.1)) rs
      → lookup (is_at (key_order key)) rs ≡ Some v → (cell_at n (place_of key) ≡ i) × (row key ≡ Some v)
  found_is key v [] each is = absurd (cc)
  found_is key v (r ∷ rs) each is = by (is_at (key_order key) r.0) refl is (λ e. found_is key v rs each.1 e)
    where
      by : (b : Bool) → is_at (key_order key) r.0 ≡ b → cond b (Some r.1) (lookup (is_at (key_order key)) rs) ≡ Some v
          → (lookup (is_at (key_order key)) rs ≡ Some v → (cell_at n (place_of key) ≡ i) × (row key ≡ Some v)) → (cell_at n (place_of key) ≡ i) × (row key ≡ Some v)
      by true at is rest =
          let same = sym (at_is key_total key_exact key r.0 at) in
          (ap (λ k. cell_at n (place_of k)) (sym same) ∙ each.0.0, ap row (sym same) ∙ each.0.1 ∙ is)
      by false at is rest = rest is

  -- what stands there is found
  none_found : (key : CellKey) (rs : CellRows) → list_any (λ (r : CellKey × Attributes). is_at (key_order r.0) key) rs ≡ true → lookup (is_at (key_order key)) rs ≡ None → ⊥
  none_found key [] any none = absurd (cc)
  none_found key (r ∷ rs) any none =
      by (is_at (key_order r.0) key) (flip key_total key_exact key r.0) any none (λ a e. none_found key rs a e)
    where
      by : (b : Bool) → is_at (key_order key) r.0 ≡ b → (b || list_any (λ (r : CellKey × Attributes). is_at (key_order r.0) key) rs) ≡ true
          → cond (is_at (key_order key) r.0) (Some r.1) (lookup (is_at (key_order key)) rs) ≡ None
          → (list_any (λ (r : CellKey × Attributes). is_at (key_order r.0) key) rs ≡ true → lookup (is_at (key_order key)) rs ≡ None → ⊥) → ⊥
      by true at any none rest = let e = ap (λ b. cond b (Some r.1) (lookup (is_at (key_order key)) rs)) at in absurd (cc)
      by false at any none rest = rest any (sym (ap (λ b. cond b (Some r.1) (lookup (is_at (key_order key)) rs)) at) ∙ none)

  -- a key of the cell finds its row, and one of another cell finds none
  pub row_found : (key : CellKey) → lookup (is_at (key_order key)) rows ≡ cond (nat_eq (cell_at n (place_of key)) i) (row key) None
  row_found key = by (lookup (is_at (key_order key)) rows) refl (nat_eq (cell_at n (place_of key)) i) refl (row key) refl
    where
      by : (o : Option Attributes) → lookup (is_at (key_order key)) rows ≡ o → (b : Bool) → nat_eq (cell_at n (place_of key)) i ≡ b → (p : Option Attributes) → row key ≡ p
          → o ≡ cond b p None
      by (Some v) e true home p is = sym (found_is key v rows listed.each e).1 ∙ is
      by (Some v) e false home p is = absurd (let there = eq-eqb (cell_at n (place_of key)) i (found_is key v rows listed.each e).0 in cc)
      by None e false home p is = refl
      by None e true home None is = refl
      by None e true home (Some v) is =
          absurd (none_found key rows (listed.all key (eqb-true (cell_at n (place_of key)) i home) (ap (λ o. is_some o) is)) e)

  -- ---- the items of a table in the cell

  module _ (table : ℕ) where
    all_among : (rs : CellRows) → shown_among (λ v. Some v) rs ≡ rs
    all_among [] = refl
    all_among (r ∷ rs) = ap (λ l. r ∷ l) (all_among rs)

    are_items : items_of table rows ≡ own_items table (λ v. Some v) rows
    are_items = ap (items_of table) (sym (all_among rows)) ∙ are_own table (λ v. Some v) rows

    pub items_rise : IsStrictlySortedBy row_order (keys_of (items_of table rows))
    items_rise =
        subst (λ items. IsStrictlySortedBy row_order (keys_of items)) (sym are_items)
        (part_rises key_total key_exact (item_key table) (own_key table) (own_there table) (own_back table) (own_order table) (shown_at table (λ v. Some v)) rows rows_rise)

    pub item_found : (key : RowKey) → item_at (items_of table rows) key ≡ cond (nat_eq (cell_at n key.place) i) (row (item_key table key)) None
    item_found key =
        ap (λ items. item_at items key) are_items
        ∙ part_found key_total key_exact (item_key table) (own_key table) (own_there table) (own_back table) (own_order table) (shown_at table (λ v. Some v)) key rows rows_rise
        ∙ itself (lookup (is_at (key_order (item_key table key))) rows) ∙ row_found (item_key table key)
      where
        itself : (o : Option Attributes) → option_and_then (λ v. Some v) o ≡ o
        itself None = refl
        itself (Some v) = refl

-- ---- the rows of a table as a list, and those of a cell

module _ (n i : ℕ) (all own : Rows) (sorted : IsStrictlySortedBy row_order (keys_of all)) (rises : IsStrictlySortedBy row_order (keys_of own))
    (found : (key : RowKey) → item_at own key ≡ cond (nat_eq (cell_at n key.place) i) (item_at all key) None) where
  abbrev in_cell : RowKey → Bool
  in_cell key = nat_eq (cell_at n key.place) i

  keys_filtered : {K X : Type 0} (test : K → Bool) (rs : List (K × X)) → keys_of (filter (λ r. test r.0) rs) ≡ filter test (keys_of rs)
  keys_filtered test [] = refl
  keys_filtered test (r ∷ rs) = by (test r.0) (keys_filtered test rs)
    where
      by : (b : Bool) → keys_of (filter (λ r. test r.0) rs) ≡ filter test (keys_of rs)
          → keys_of (cond b (r ∷ filter (λ r. test r.0) rs) (filter (λ r. test r.0) rs)) ≡ cond b (r.0 ∷ filter test (keys_of rs)) (filter test (keys_of rs))
      by true same = ap (λ l. r.0 ∷ l) same
      by false same = same

  own_are : own ≡ filter (λ r. in_cell r.0) all
  own_are =
      same_entries row_total row_exact own (filter (λ r. in_cell r.0) all) rises
      (subst (IsStrictlySortedBy row_order) (sym (keys_filtered in_cell all)) (IsStrictlySortedBy-filter row_order in_cell (keys_of all) sorted))
      (λ key.
      found key
      ∙ sym (lookup-filter-keys (is_at (row_order key)) in_cell (in_cell key) (λ k at. ap in_cell (sym (at_is row_total row_exact key k at))) all))

  -- a table's own rows
  pub entries_are : table_entries own ≡ filter (is_in_cell n i) (table_entries all)
  entries_are = ap table_entries own_are ∙ sym (filter_made (λ (row : RowKey × Attributes). (position row.0 row.0, row.1)) (is_in_cell n i) all)

  -- and those of a local index
  module _ (schema : Schema) (keys : KeyNames) where
    same_rows : (q : Position) (b : Bool) (item : Option Attributes)
        → cond (is_place (spot_of schema keys q.item (cond b item None)) q) (cond b item None) None
        ≡ cond b (cond (is_place (spot_of schema keys q.item item) q) item None) None
    same_rows q true item = refl
    same_rows q false item = none (is_place (spot_of schema keys q.item None) q)
      where
        none : (c : Bool) → cond c None None ≡ (let o : Option Attributes = None in o)
        none true = refl
        none false = refl

    pub index_entries_are : index_of schema keys own ≡ filter (is_in_cell n i) (index_of schema keys all)
    index_entries_are =
        same_entries position_total position_exact (index_of schema keys own) (filter (is_in_cell n i) (index_of schema keys all)) (index_sorted schema keys own)
        (subst (IsStrictlySortedBy position_order) (sym (keys_filtered (λ (at : Position). in_cell at.item) (index_of schema keys all)))
        (IsStrictlySortedBy-filter position_order (λ (at : Position). in_cell at.item) (keys_of (index_of schema keys all)) (index_sorted schema keys all)))
        (λ q.
        index_found schema keys own rises q
        ∙ (λ j. cond (is_place (spot_of schema keys q.item (found q.item j)) q) (found q.item j) None)
        ∙ same_rows q (in_cell q.item) (item_at all q.item)
        ∙ sym (ap (λ o. cond (in_cell q.item) o None) (index_found schema keys all sorted q))
        ∙ sym (lookup-filter-keys (is_at (position_order q)) (λ (at : Position). in_cell at.item) (in_cell q.item)
        (λ at hit. ap (λ (x : Position). in_cell x.item) (sym (at_is position_total position_exact q at hit))) (index_of schema keys all)))
