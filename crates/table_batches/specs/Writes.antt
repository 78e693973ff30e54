-- What a BatchWriteItem changes, as the code goes over it.
use Rattle.std.specs.Prelude.{ℕ, List, [], ◌∷◌, filter_map, Option, None, Some}
use Rattle.std.specs.List.{list_any}
use Rattle.update_eval.specs.declared.fault.EvalFault.TheVariants.{IndexKey}
use Rattle.row_keys.specs.declared.row_key.RowKey.{RowKey}
use Rattle.table_request.specs.declared.batches.TableWrites.{TableWrites}
use Rattle.table_request.specs.declared.batches.WriteRequest.{WriteRequest}
use Rattle.table_model.specs.declared.refusal.Refusal.{Refusal}
use Rattle.table_model.specs.declared.refusal.Refusal.TheVariants.{Invalid}
use Rattle.table_model.specs.declared.refusal.Invalid.TheVariants as invalid
use Rattle.table_model.specs.Database.{Database, Table, table_named, first, where_true}
use Rattle.table_model.specs.Batches.{place_if, write_key, write_image, is_oversized, is_unfit_write}
use Rattle.numbered_tables.specs.declared.change.TableChange.{TableChange}

-- the change that a write at a key is
abbrev pub change_if : List ℕ → WriteRequest → Option RowKey → Option TableChange
change_if name write None = None
change_if name write (Some key) = Some (record { table = name; key = key; new = write_image write })

-- the changes that the writes of a table are
abbrev pub changes_of : Table → List ℕ → List WriteRequest → List TableChange
changes_of table name writes = filter_map (λ write. change_if name write (place_if (write_key table write))) writes

abbrev pub changes_if : Option Table → TableWrites → List TableChange
changes_if None t = []
changes_if (Some table) t = changes_of table t.table t.writes

abbrev pub changes_in : Database → TableWrites → List TableChange
changes_in db t = changes_if (table_named db t.table) t

-- the refusal of an item's size, then of an index's key
abbrev pub items_refusal : Database → List TableWrites → Option Refusal
items_refusal db ts =
    first
    (where_true (list_any (λ t. list_any is_oversized t.writes) ts) (Invalid invalid.ItemTooLarge)
    ∷ where_true (list_any (λ t. list_any (is_unfit_write (table_named db t.table)) t.writes) ts) (Invalid (invalid.Evaluation IndexKey))
    ∷ [])
