-- The items of each table as a list of rows, and what a change of items leaves of that.
use Rattle.std.specs.List.{AllZip}
use Rattle.std.specs.List.Sorted.{IsStrictlySortedBy}
use Rattle.std.specs.Map.{keys_of}
use Rattle.std.specs.BTreeMap.{is_at}
use Rattle.std.specs.FinMap.{empty}
use Rattle.std.specs.Cmp.{tied_itself}
use Rattle.std.specs.Ordering.{nat_cmp, ordering_then, is_eq}
use Rattle.std.specs.declared.cmp.Ordering.TheVariants.{Equal}
use Rattle.std.specs.Prelude.{nat_eq, map, if◌then◌else◌}
use Rattle.std.proofs.Common.{◌≡◌, ℕ, Bool, true, false, cond, List, [], ◌∷◌, Option, None, refl, sym, ap, ◌∙◌}
use Rattle.std.proofs.lemmas.Bool.{eqb-true, eq-eqb}
use Rattle.std.proofs.lemmas.Cmp.{nat_cmp_total}
use Rattle.attr_value.specs.Tree.{Attributes}
use Rattle.row_keys.specs.declared.row_key.RowKey.{RowKey}
use Rattle.row_keys.specs.Keys.{row_order}
use Rattle.row_keys.specs.Rows.{Rows, item_at, with_item}
use Rattle.table_rows.proofs.SlotLists.{with_sorted, with_at}
use Rattle.table_model.specs.Database.{Database, Table}
use Rattle.cell_model.specs.declared.key.IndexRowKey.{IndexRowKey}
use Rattle.cell_model.specs.declared.key.ItemKey.{ItemKey}
use Rattle.cell_model.specs.declared.key.CellKey.{CellKey}
use Rattle.cell_model.specs.declared.key.CellKey.TheVariants.{Item, Row}
use Rattle.cell_model.specs.declared.catalog.Catalog.{Catalog}
use Rattle.cell_model.specs.declared.catalog.CatalogTable.{CatalogTable}
use Rattle.cell_model.specs.Keys.{same_key, key_order, table_of}
use Rattle.cell_model.proofs.Exact.{same_is}
use Rattle.table_history.specs.Standing.{IsTableOf, StandsFor}

-- the key of an item of a table
abbrev pub of_table : ℕ → RowKey → CellKey
of_table m key = Item (record { table = m; key = key })

-- the items of a table are these rows
pub record IsListing (item : CellKey → Option Attributes) (m : ℕ) : Type 0 where
  pub rows : Rows
  pub ordered : IsStrictlySortedBy row_order (keys_of rows)
  pub at : (key : RowKey) → item_at rows key ≡ item (of_table m key)

abbrev pub IsListed : (CellKey → Option Attributes) → Type 0
IsListed item = (m : ℕ) → IsListing item m

-- where no item is there
pub none_listed : (item : CellKey → Option Attributes) (m : ℕ) → ((key : RowKey) → item (of_table m key) ≡ None) → IsListing item m
unfolding IsStrictlySortedBy
none_listed item m none = record { rows = []; ordered = tt; at = λ key. sym (none key) }

-- where the items are those that were there
pub alike_listed : (f g : CellKey → Option Attributes) (m : ℕ) → ((key : RowKey) → g (of_table m key) ≡ f (of_table m key)) → IsListing f m → IsListing g m
alike_listed f g m alike l = record { rows = l.rows; ordered = l.ordered; at = λ key. l.at key ∙ sym (alike key) }

-- ---- one item changes

of_rows : (k : IndexRowKey) (m : ℕ) (key : RowKey) → same_key (Row k) (of_table m key) ≡ false
unfolding key_order
of_rows k m key = refl

in_table : (k : ItemKey) (m : ℕ) (key : RowKey) → k.table ≡ m → same_key (Item k) (of_table m key) ≡ is_at (row_order k.key) key
unfolding key_order
in_table k m key same =
    let tied : nat_cmp k.table m ≡ Equal = ap (nat_cmp k.table) (sym same) ∙ tied_itself nat_cmp_total k.table in
    ap (λ o. is_eq (ordering_then o (row_order k.key key))) tied

other_table : (k : ItemKey) (m : ℕ) (key : RowKey) → nat_eq m k.table ≡ false → same_key (Item k) (of_table m key) ≡ false
other_table k m key apart = go (same_key (Item k) (of_table m key)) refl
  where
    go : (b : Bool) → same_key (Item k) (of_table m key) ≡ b → b ≡ false
    go true e =
        let table : k.table ≡ m = ap table_of (same_is (Item k) (of_table m key) e) in
        absurd (let clash : true ≡ false = sym (eq-eqb m k.table (sym table)) ∙ apart in cc)
    go false e = refl

module _ (f g F : CellKey → Option Attributes) where
  -- one item is another, and all others are as they were
  abbrev pub Changes : CellKey → Type 0
  Changes k = (q : CellKey) → g q ≡ (if same_key k q then F q else f q)

  -- what the new item is, wherever the key is met
  met : (k : CellKey) → Changes k → (q : CellKey) → g q ≡ cond (same_key k q) (F k) (f q)
  met k is q = go (same_key k q) refl (is q)
    where
      go : (b : Bool) → same_key k q ≡ b → g q ≡ (if b then F q else f q) → g q ≡ cond b (F k) (f q)
      go true e h = h ∙ sym (ap F (same_is k q e))
      go false e h = h

  away : (k : CellKey) → Changes k → (m : ℕ) (key : RowKey) → same_key k (of_table m key) ≡ false → g (of_table m key) ≡ f (of_table m key)
  away k is m key apart = met k is (of_table m key) ∙ ap (λ b. cond b (F k) (f (of_table m key))) apart

  -- the items of other tables stay
  pub untouched : (k : ItemKey) → Changes (Item k) → (m : ℕ) → nat_eq m k.table ≡ false → (key : RowKey) → g (of_table m key) ≡ f (of_table m key)
  untouched k is m apart key = away (Item k) is m key (other_table k m key apart)

  -- in its own table it stands among the rows
  pub changed_at : (k : ItemKey) → Changes (Item k) → (m : ℕ) → k.table ≡ m → (rows : Rows) → IsStrictlySortedBy row_order (keys_of rows)
      → ((key : RowKey) → item_at rows key ≡ f (of_table m key)) → (key : RowKey) → item_at (with_item rows k.key (F (Item k))) key ≡ g (of_table m key)
  changed_at k is m same rows ordered at key =
      with_at rows k.key (F (Item k)) ordered key
      ∙ ap (cond (is_at (row_order k.key) key) (F (Item k))) (at key)
      ∙ ap (λ b. cond b (F (Item k)) (f (of_table m key))) (sym (in_table k m key same))
      ∙ sym (met (Item k) is (of_table m key))

  pub one_listed : (k : CellKey) → Changes k → IsListed f → IsListed g
  one_listed (Row k) is listed m = alike_listed f g m (λ key. away (Row k) is m key (of_rows k m key)) (listed m)
  one_listed (Item k) is listed m = go (nat_eq m k.table) refl
    where
      go : (b : Bool) → nat_eq m k.table ≡ b → IsListing g m
      go true e =
          let l = listed m in
          record {
            rows = with_item l.rows k.key (F (Item k));
            ordered = with_sorted l.rows k.key (F (Item k)) l.ordered;
            at = changed_at k is m (sym (eqb-true m k.table e)) l.rows l.ordered l.at;
          }
      go false e = alike_listed f g m (untouched k is m e) (listed m)

-- ---- a database of listed items

abbrev entry : (item : CellKey → Option Attributes) → IsListed item → CatalogTable → List ℕ × Table
entry item listed t = (t.schema.name, record { number = t.number; schema = t.schema; rows = (listed t.number).rows })

entries_stand : (item : CellKey → Option Attributes) (listed : IsListed item) (ts : List CatalogTable) → AllZip (IsTableOf item) ts (map (entry item listed) ts)
entries_stand item listed [] = tt
entries_stand item listed (t ∷ ts) =
    (record { name = refl; schema = refl; ordered = (listed t.number).ordered; rows = (listed t.number).at }, entries_stand item listed ts)

pub database_stands : (item : CellKey → Option Attributes) → IsListed item → (catalog : Catalog) → (db : Database) × StandsFor catalog item db
database_stands item listed catalog =
    (record { tables = map (entry item listed) catalog.tables; tokens = empty; made = 0 }, entries_stand item listed catalog.tables)
