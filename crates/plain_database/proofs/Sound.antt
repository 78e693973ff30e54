-- Tables stay sound as they come and go, and a table that is found has its rows at their keys.
use Rattle.std.specs.Ordering.{nat_cmp}
use Rattle.std.specs.Cmp.Lexicographic.{slice_cmp}
use Rattle.std.specs.FinMap.{empty}
use Rattle.std.specs.Map.{lookup, remove_entry}
use Rattle.std.specs.BTreeMap.{insert_entry}
use Rattle.std.proofs.Common.{◌≡◌, ℕ, List, Bool, Some, sym, subst}
use Rattle.table_model.specs.Database.{Table}
use Rattle.page_ranges.specs.AtKeys.{AreAtKeys}
use Rattle.plain_database.specs.Keyed.{IsKeyed, AreKeyed}
use Rattle.plain_database.proofs.AllEntries.{all_inserted, all_removed}
use Rattle.plain_database.proofs.Rows.{named_keyed}
use Rattle.numbered_tables.specs.declared.table.NumberedTable.{NumberedTable}
use Rattle.numbered_tables.specs.Tables.{Kept, table_in, tables_in, database_in}
use Rattle.numbered_tables.proofs.Kept.{at, there, inserted_in, removed_in}

pub keyed_at : (es : Kept) (name : List ℕ) (x : NumberedTable) → lookup (at name) es ≡ Some x → AreKeyed (tables_in es) → AreAtKeys x.rows.schema x.rows.rows
keyed_at es name x found all = named_keyed (database_in es empty 0) name (table_in x) (there es empty 0 name x found) all

pub keyed_inserted : (es : Kept) (name : List ℕ) (w : NumberedTable) → AreAtKeys w.rows.schema w.rows.rows → AreKeyed (tables_in es)
    → AreKeyed (tables_in (insert_entry (slice_cmp nat_cmp) es name w))
keyed_inserted es name w one all =
    subst AreKeyed (sym (inserted_in (slice_cmp nat_cmp) es name w))
    (all_inserted (λ (n : List ℕ) (t : Table). IsKeyed t) (slice_cmp nat_cmp) name (table_in w) (tables_in es) one (λ other same. one) all)

pub keyed_removed : (test : List ℕ → Bool) (es : Kept) → AreKeyed (tables_in es) → AreKeyed (tables_in (remove_entry test es))
keyed_removed test es all =
    subst AreKeyed (sym (removed_in test es)) (all_removed (λ (n : List ℕ) (t : Table). IsKeyed t) test (tables_in es) all)
