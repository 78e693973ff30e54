-- Databases that stand for the same tables have the same tables.
use Rattle.std.specs.List.{AllZip}
use Rattle.std.proofs.Common.{ℕ, List, [], ◌∷◌, Option, sym, ◌∙◌}
use Rattle.attr_value.specs.Tree.{Attributes}
use Rattle.row_keys.specs.KeyLaws.{row_total}
use Rattle.table_rows.proofs.Entries.{same_entries}
use Rattle.table_rows.proofs.Exact.{row_exact}
use Rattle.table_model.specs.Database.{Table}
use Rattle.cell_model.specs.declared.key.CellKey.{CellKey}
use Rattle.cell_model.specs.declared.catalog.CatalogTable.{CatalogTable}
use Rattle.table_history.specs.Standing.{IsTableOf, AreOneTable, StandAlike}

one_table : (item : CellKey → Option Attributes) (t : CatalogTable) (e f : List ℕ × Table) → IsTableOf item t e → IsTableOf item t f → AreOneTable e f
one_table item t e f one other = record {
  name = one.name ∙ sym other.name;
  schema = one.schema ∙ sym other.schema;
  rows = same_entries row_total row_exact e.1.rows f.1.rows one.ordered other.ordered (λ key. one.rows key ∙ sym (other.rows key));
}

all_alike : (item : CellKey → Option Attributes) (ts : List CatalogTable) (es fs : List (List ℕ × Table)) → AllZip (IsTableOf item) ts es → AllZip (IsTableOf item) ts fs
    → AllZip AreOneTable es fs
all_alike item [] [] [] one other = tt
all_alike item [] (e ∷ es) fs one other = absurd one
all_alike item [] [] (f ∷ fs) one other = absurd other
all_alike item (t ∷ ts) [] fs one other = absurd one
all_alike item (t ∷ ts) (e ∷ es) [] one other = absurd other
all_alike item (t ∷ ts) (e ∷ es) (f ∷ fs) one other = (one_table item t e f one.0 other.0, all_alike item ts es fs one.1 other.1)

pub stand_alike : StandAlike
stand_alike catalog item db other one same = all_alike item catalog.tables db.tables other.tables one same
