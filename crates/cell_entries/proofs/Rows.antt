-- The rows that the committed entries of a local index stand for are the rows of the index.
use Rattle.std.specs.Prelude.{slice_get, if◌then◌else◌}
use Rattle.std.specs.List.{cons_option}
use Rattle.std.specs.List.Sorted.{IsStrictlySortedBy}
use Rattle.std.specs.Map.{keys_of, lookup}
use Rattle.std.specs.BTreeMap.{BTreeMap, IsOrdered, get, is_at}
use Rattle.std.specs.Cmp.{nat_cmp_total, tied_itself}
use Rattle.std.specs.Ordering.{ordering_then}
use Rattle.std.proofs.Common.{◌≡◌, ℕ, Bool, true, false, ◌&&◌, nat_eq, cond, List, [], ◌∷◌, filter_map, Option, None, Some, option_map, option_and_then, unwrap_or, refl, sym, ap, ◌∙◌, subst, arith}
use Rattle.std.proofs.lemmas.Bool.{and_parts, cond-true, eq-eqb, eqb-true}
use Rattle.attr_value.specs.Tree.{Attributes}
use Rattle.table_schema.specs.declared.index.LocalIndex.{LocalIndex}
use Rattle.row_keys.specs.declared.position.Position.{Position}
use Rattle.row_keys.specs.declared.row_key.RowKey.{RowKey}
use Rattle.row_keys.specs.Keys.{position_order, row_order}
use Rattle.row_keys.specs.KeyLaws.{position_total}
use Rattle.row_keys.specs.Rows.{Entries, Rows, item_at, local_entries}
use Rattle.table_rows.specs.Moves.{is_place, spot_of}
use Rattle.table_rows.proofs.Entries.{same_entries}
use Rattle.table_rows.proofs.Exact.{position_exact}
use Rattle.table_rows.proofs.Listed.{index_found, index_sorted}
use Rattle.local_index.specs.declared.claim.Claim.{Claim}
use Rattle.local_index.specs.Claims.{is_committed}
use Rattle.local_index.specs.Entries.{is_among}
use Rattle.cell_model.specs.declared.key.CellKey.{CellKey}
use Rattle.cell_model.specs.declared.key.CellKey.TheVariants.{Item, Row}
use Rattle.cell_model.specs.declared.catalog.Catalog.{Catalog}
use Rattle.cell_model.specs.declared.catalog.CatalogTable.{CatalogTable}
use Rattle.cell_model.specs.Catalogs.{numbered}
use Rattle.cell_model.specs.Keys.{key_order}
use Rattle.cell_model.specs.KeyLaws.{key_total}
use Rattle.cell_model.specs.Pages.{CellRows, items_of}
use Rattle.cell_model.proofs.Exact.{key_exact}
use Rattle.cell_entries.specs.declared.entry.LocalEntry.{LocalEntry}
use Rattle.cell_entries.specs.LocalEntries.{entries_in, entry_order}
use Rattle.cell_pages.specs.Walked.{shown_among}
use Rattle.cell_entries.specs.Met.{AreEntriesOf, entries_if, entry_in, item_in as shown_in, named_at, position_of, row_at}
use Rattle.cell_entries.proofs.Among.{among_from, entry_exact, entry_total, in_order, stands_in}
use Rattle.cell_entries.proofs.Parts.{part_found, part_of, part_rises, part_row}

both_true : (a b : Bool) → a ≡ true → b ≡ true → (a && b) ≡ true
both_true a b e f = λ j. e j && f j

-- ---- the items of a table

module _ (table : ℕ) where
  abbrev pub item_key : RowKey → CellKey
  item_key key = Item (record { table = table; key = key })

  -- the key of an item of the table
  abbrev pub own_key : CellKey → Option RowKey
  own_key (Item key) = if nat_eq key.table table then Some key.key else None
  own_key (Row key) = None

  pub own_there : (key : RowKey) → own_key (item_key key) ≡ Some key
  own_there key = cond-true (nat_eq table table) (Some key) None (eq-eqb table table refl)

  pub own_back : (k : CellKey) (key : RowKey) → own_key k ≡ Some key → k ≡ item_key key
  own_back (Row k) key is = absurd (cc)
  own_back (Item k) key is = by (nat_eq k.table table) refl is
    where
      by : (b : Bool) → nat_eq k.table table ≡ b → (if b then Some k.key else None) ≡ Some key → Item k ≡ item_key key
      by true e f = let table_is = eqb-true k.table table e in let key_is : k.key ≡ key = ap (λ o. unwrap_or o key) f in λ i. Item (record { table = table_is i; key = key_is i })
      by false e f = absurd (cc)

  pub own_order : (i j : RowKey) → key_order (item_key i) (item_key j) ≡ row_order i j
  unfolding key_order
  own_order i j = ap (λ o. ordering_then o (row_order i j)) (tied_itself nat_cmp_total table)

  module _ {W : Type 0} (shown : W → Option Attributes) where
    abbrev pub shown_at : RowKey → W → Option Attributes
    shown_at key w = shown w

    abbrev row_of : W → Option RowKey → Option (RowKey × Attributes)
    row_of w key = part_row key_total key_exact item_key own_key own_there own_back own_order shown_at w key

    abbrev pub own_items : List (CellKey × W) → Rows
    own_items es = part_of key_total key_exact item_key own_key own_there own_back own_order shown_at es

    abbrev row_with : Option Attributes → Option RowKey → Option (RowKey × Attributes)
    row_with item None = None
    row_with item (Some key) = option_map (λ v. (key, v)) item

    as_shown : (w : W) (key : Option RowKey) → row_with (shown w) key ≡ row_of w key
    as_shown w None = refl
    as_shown w (Some key) = refl

    one_own : (k : CellKey) (item : Option Attributes) (rest : CellRows) (more : Rows) → items_of table rest ≡ more
        → items_of table (cons_option (option_map (λ v. (k, v)) item) rest) ≡ cons_option (row_with item (own_key k)) more
    one_own (Row k) None rest more is = is
    one_own (Row k) (Some item) rest more is = is
    one_own (Item k) None rest more is = by (nat_eq k.table table)
      where
        by : (b : Bool) → items_of table rest ≡ cons_option (row_with None (if b then Some k.key else None)) more
        by true = is
        by false = is
    one_own (Item k) (Some item) rest more is = by (nat_eq k.table table)
      where
        by : (b : Bool) → cons_option (if b then Some (k.key, item) else None) (items_of table rest) ≡ cons_option (row_with (Some item) (if b then Some k.key else None)) more
        by true = ap (λ rows. (k.key, item) ∷ rows) is
        by false = is

    pub are_own : (es : List (CellKey × W)) → items_of table (shown_among shown es) ≡ own_items es
    are_own [] = refl
    are_own (e ∷ es) =
        one_own e.0 (shown e.1) (shown_among shown es) (own_items es) (are_own es)
        ∙ ap (λ row. cons_option row (own_items es)) (as_shown e.1 (own_key e.0))

    module _ (items : BTreeMap CellKey W) (rise : IsOrdered key_order items) where
      abbrev pub table_items : Rows
      table_items = items_of table (shown_among shown items.entries)

      -- the items of a table stand in the order of their keys
      pub items_rise : IsStrictlySortedBy row_order (keys_of table_items)
      items_rise =
          subst (λ rows. IsStrictlySortedBy row_order (keys_of rows)) (sym (are_own items.entries))
          (part_rises key_total key_exact item_key own_key own_there own_back own_order shown_at items.entries rise)

      -- and each is found that the map shows
      pub item_found : (key : RowKey) → item_at table_items key ≡ shown_in shown items table key
      item_found key =
          (λ j. item_at (are_own items.entries j) key)
          ∙ part_found key_total key_exact item_key own_key own_there own_back own_order shown_at key items.entries rise

-- ---- the entries of an index

module _ (table place : ℕ) where
  place_there : (at : Position) → position_of table place (entry_in table place at) ≡ Some at
  place_there at = cond-true (nat_eq table table && nat_eq place place) (Some at) None (both_true _ _ (eq-eqb table table refl) (eq-eqb place place refl))

  pub place_back : (e : LocalEntry) (at : Position) → position_of table place e ≡ Some at → e ≡ entry_in table place at
  place_back e at is = by (nat_eq e.table table && nat_eq e.index place) refl is
    where
      by : (b : Bool) → (nat_eq e.table table && nat_eq e.index place) ≡ b → (if b then Some e.at else None) ≡ Some at → e ≡ entry_in table place at
      by true h f =
          let both = and_parts (nat_eq e.table table) (nat_eq e.index place) h in
          let table_is = eqb-true e.table table both.0 in
          let index_is = eqb-true e.index place both.1 in
          let at_is : e.at ≡ at = ap (λ o. unwrap_or o at) f in
          λ i. record { table = table_is i; index = index_is i; at = at_is i }
      by false h f = absurd (cc)

  module _ (items : RowKey → Option Attributes) where
    abbrev entry_rows : List (LocalEntry × Claim) → Entries
    entry_rows es = part_of entry_total entry_exact (entry_in table place) (position_of table place) place_there place_back (in_order table place) (named_at items) es

    same_row : (claim : Claim) (at : Option Position) → row_at items claim at
        ≡ part_row entry_total entry_exact (entry_in table place) (position_of table place) place_there place_back (in_order table place) (named_at items) claim at
    same_row claim None = refl
    same_row claim (Some at) = refl

    are_rows : (es : List (LocalEntry × Claim)) → filter_map (λ e. row_at items e.1 (position_of table place e.0)) es ≡ entry_rows es
    are_rows es = λ j. filter_map (λ e. same_row e.1 (position_of table place e.0) j) es

    -- what is found at a position is the item that a committed entry names
    by_claim : (at : Position) (claim : Option Claim) → option_and_then (named_at items at) claim ≡ cond (is_committed claim) (items at.item) None
    by_claim at None = refl
    by_claim at (Some claim) = refl

module _
    {W : Type 0} (shown : W → Option Attributes) (catalog : Catalog) (t : CatalogTable) (place : ℕ) (index : LocalIndex)
    (there : numbered catalog.tables t.number ≡ Some t) (listed : slice_get t.schema.locals place ≡ Some index)
    (items : BTreeMap CellKey W) (entries : BTreeMap LocalEntry Claim)
    (items_rising : IsOrdered key_order items) (entries_rising : IsOrdered entry_order entries) (are : AreEntriesOf shown catalog items entries) where
  abbrev found : RowKey → Option Attributes
  found key = shown_in shown items t.number key

  abbrev own : Rows
  own = items_of t.number (shown_among shown items.entries)

  -- an item that is there, where it stands at the position
  abbrev standing : Position → Option Attributes → Option Attributes
  standing at item = cond (is_place (spot_of t.schema index.keys at.item item) at) item None

  -- the entry at a position is committed exactly where the item that it names stands there
  claimed : (at : Position) (item : Option Attributes)
      → cond (is_among entry_order (entries_if catalog (item_key t.number at.item) item) (entry_in t.number place at)) item None ≡ standing at item
  claimed at None = refl
  claimed at (Some item) =
      ap (λ b. cond b (Some item) None)
      ((λ i. is_among entry_order (entries_in (there i) (record { table = t.number; key = at.item }) item) (entry_in t.number place at))
      ∙ among_from t.schema (record { table = t.number; key = at.item }) item at t.schema.locals 0 place place (omega arith)
      ∙ ap (stands_in t.schema (record { table = t.number; key = at.item }) item at) listed)

  looked_up : (at : Position) → lookup (is_at (position_order at)) (entry_rows t.number place found entries.entries) ≡ lookup (is_at (position_order at)) (local_entries t.schema index own)
  looked_up at =
      part_found entry_total entry_exact (entry_in t.number place) (position_of t.number place) (place_there t.number place) (place_back t.number place)
      (in_order t.number place) (named_at found) at entries.entries entries_rising
      ∙ by_claim t.number place found at (get entry_order entries (entry_in t.number place at))
      ∙ ap (λ b. cond b (found at.item) None) (are (entry_in t.number place at))
      ∙ claimed at (found at.item)
      ∙ sym (index_found t.schema index.keys own (items_rise t.number shown items items_rising) at ∙ ap (standing at) (item_found t.number shown items items_rising at.item))

  -- so the rows that the entries stand for, in their order, are those of the index
  pub rows_are_listed : filter_map (λ e. row_at found e.1 (position_of t.number place e.0)) entries.entries ≡ local_entries t.schema index own
  rows_are_listed =
      are_rows t.number place found entries.entries
      ∙ same_entries position_total position_exact (entry_rows t.number place found entries.entries) (local_entries t.schema index own)
      (part_rises entry_total entry_exact (entry_in t.number place) (position_of t.number place) (place_there t.number place) (place_back t.number place)
      (in_order t.number place) (named_at found) entries.entries entries_rising)
      (index_sorted t.schema index.keys own) looked_up
