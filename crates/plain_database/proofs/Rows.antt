-- Rows, and tables, that change and stay at their items' keys.
use Rattle.std.specs.Prelude.{⊤}
use Rattle.std.proofs.Common.{◌≡◌, ℕ, List, [], ◌∷◌, Bool, true, false, cond, Option, None, Some, is_eq, refl, sym, subst}
use Rattle.std.specs.Ordering.{nat_cmp}
use Rattle.std.specs.declared.cmp.Ordering.{Ordering}
use Rattle.std.specs.declared.cmp.Ordering.TheVariants.{Less, Equal, Greater}
use Rattle.std.specs.Cmp.Lexicographic.{slice_cmp}
use Rattle.std.specs.BTreeMap.{is_at}
use Rattle.attr_value.specs.Tree.{Attributes}
use Rattle.table_schema.specs.declared.schema.Schema.{Schema}
use Rattle.row_keys.specs.declared.row_key.RowKey.{RowKey}
use Rattle.row_keys.specs.Keys.{row_order}
use Rattle.row_keys.specs.Rows.{Rows, item_at, with_item}
use Rattle.page_ranges.specs.AtKeys.{IsAtKey, AreAtKeys}
use Rattle.table_rows.proofs.Exact.{row_exact}
use Rattle.table_model.specs.Database.{Database, Table, table_named, with_table, with_row}
use Rattle.plain_database.specs.Keyed.{IsKeyed, HasRowsAtKeys}
use Rattle.plain_database.proofs.AllEntries.{all_inserted, all_removed, all_set, all_found}

-- an item that comes to a key has it
abbrev pub Fits : Schema → RowKey → Option Attributes → Type 0
Fits schema key None = ⊤
Fits schema key (Some item) = IsAtKey schema schema.keys key item

pub with_keyed : (schema : Schema) (rows : Rows) (key : RowKey) (item : Option Attributes) → Fits schema key item → AreAtKeys schema rows
    → AreAtKeys schema (with_item rows key item)
with_keyed schema rows key None fits all = all_removed (IsAtKey schema schema.keys) (is_at (row_order key)) rows all
with_keyed schema rows key (Some item) fits all =
    all_inserted (IsAtKey schema schema.keys) row_order key item rows fits (λ other same. subst (λ k. IsAtKey schema schema.keys k item) (row_exact key other same) fits) all

equal_at : (o : Ordering) → is_eq o ≡ true → o ≡ Equal
equal_at Less e = cc
equal_at Equal e = refl
equal_at Greater e = cc

-- the item that is at a key has it
pub item_fits : (schema : Schema) (rows : Rows) (key : RowKey) → AreAtKeys schema rows → Fits schema key (item_at rows key)
item_fits schema [] key all = tt
item_fits schema (row ∷ rows) key all = go (is_at (row_order key) row.0) refl (item_fits schema rows key all.1)
  where
    go : (b : Bool) → is_at (row_order key) row.0 ≡ b → Fits schema key (item_at rows key) → Fits schema key (cond b (Some row.1) (item_at rows key))
    go true e later = subst (λ k. IsAtKey schema schema.keys k row.1) (sym (row_exact key row.0 (equal_at (row_order key row.0) e))) all.0
    go false e later = later

-- a table with its rows at their keys, in place of one of its name
pub table_keyed : (db : Database) (name : List ℕ) (table : Table) → IsKeyed table → HasRowsAtKeys db → HasRowsAtKeys (with_table db name table)
table_keyed db name table one all = all_set (λ (n : List ℕ) (t : Table). IsKeyed t) (is_at (slice_cmp nat_cmp name)) db.tables table (λ n. one) all

pub named_keyed : (db : Database) (name : List ℕ) (table : Table) → table_named db name ≡ Some table → HasRowsAtKeys db → IsKeyed table
named_keyed db name table is all = (all_found (λ (n : List ℕ) (t : Table). IsKeyed t) (is_at (slice_cmp nat_cmp name)) db.tables table is all).1

pub row_keyed : (db : Database) (name : List ℕ) (table : Table) (key : RowKey) (item : Option Attributes) → table_named db name ≡ Some table
    → Fits table.schema key item → HasRowsAtKeys db → HasRowsAtKeys (with_row db name table key item)
row_keyed db name table key item is fits all =
    table_keyed db name (record table { rows = with_item table.rows key item })
    (with_keyed table.schema table.rows key item fits (named_keyed db name table is all)) all
