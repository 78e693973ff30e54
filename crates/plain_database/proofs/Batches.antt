-- Requests on many items, one after the other, leave rows at their keys.
use Rattle.std.proofs.Common.{◌≡◌, ℕ, List, [], ◌∷◌, Option, None, Some, Result, Ok, Err, refl, ◌∙◌}
use Rattle.item_keys.specs.ItemKey.{key_in}
use Rattle.item_keys.specs.declared.fault.KeyFault.{KeyFault}
use Rattle.item_keys.specs.declared.key.Key.{Key}
use Rattle.row_keys.specs.declared.row_key.RowKey.{RowKey}
use Rattle.page_ranges.specs.AtKeys.{key_if}
use Rattle.table_request.specs.declared.batches.BatchGet.{BatchGet}
use Rattle.table_request.specs.declared.batches.BatchWrite.{BatchWrite}
use Rattle.table_request.specs.declared.batches.TableWrites.{TableWrites}
use Rattle.table_request.specs.declared.batches.WriteRequest.{WriteRequest}
use Rattle.table_request.specs.declared.batches.WriteRequest.TheVariants.{Put, Delete}
use Rattle.table_model.specs.Database.{Database, Table, table_named}
use Rattle.table_model.specs.Batches.{place_if, batch_get_refusal, batch_get, batch_write_refusal, write_key, write_image, write_at, write_if, write_one, write_table, write_all, batch_write}
use Rattle.plain_database.specs.Keyed.{HasRowsAtKeys}
use Rattle.plain_database.proofs.Rows.{Fits, row_keyed}
use Rattle.plain_database.proofs.Singles.{unless_keyed}

pub placed_key : (k : Result Key KeyFault) → key_if k ≡ place_if k
placed_key (Ok key) = refl
placed_key (Err fault) = refl

image_fits : (table : Table) (write : WriteRequest) (key : RowKey) → place_if (write_key table write) ≡ Some key → Fits table.schema key (write_image write)
image_fits table (Put item) key is = placed_key (key_in table.schema table.schema.keys item) ∙ is
image_fits table (Delete item) key is = tt

placed_keyed : (db : Database) (name : List ℕ) (table : Table) (write : WriteRequest) (o : Option RowKey) → place_if (write_key table write) ≡ o
    → table_named db name ≡ Some table → HasRowsAtKeys db → HasRowsAtKeys (write_at db name table write o)
placed_keyed db name table write None placed is all = all
placed_keyed db name table write (Some key) placed is all = row_keyed db name table key (write_image write) is (image_fits table write key placed) all

one_keyed : (db : Database) (name : List ℕ) (write : WriteRequest) (o : Option Table) → table_named db name ≡ o → HasRowsAtKeys db
    → HasRowsAtKeys (write_if db name o write)
one_keyed db name write None is all = all
one_keyed db name write (Some table) is all = placed_keyed db name table write (place_if (write_key table write)) refl is all

table_writes_keyed : (db : Database) (name : List ℕ) (writes : List WriteRequest) → HasRowsAtKeys db → HasRowsAtKeys (write_table db name writes)
table_writes_keyed db name [] all = all
table_writes_keyed db name (write ∷ writes) all =
    table_writes_keyed (write_one db name write) name writes (one_keyed db name write (table_named db name) refl all)

all_writes_keyed : (db : Database) (ts : List TableWrites) → HasRowsAtKeys db → HasRowsAtKeys (write_all db ts)
all_writes_keyed db [] all = all
all_writes_keyed db (t ∷ ts) all = all_writes_keyed (write_table db t.table t.writes) ts (table_writes_keyed db t.table t.writes all)

pub batch_write_keyed : (db : Database) (r : BatchWrite) → HasRowsAtKeys db → HasRowsAtKeys (batch_write db r).0
batch_write_keyed db r all = unless_keyed db (batch_write_refusal db r.tables) _ all (λ none. all_writes_keyed db r.tables all)

pub batch_get_keyed : (db : Database) (r : BatchGet) → HasRowsAtKeys db → HasRowsAtKeys (batch_get db r).0
batch_get_keyed db r all = unless_keyed db (batch_get_refusal db r.tables) _ all (λ none. all)
