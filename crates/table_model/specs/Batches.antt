-- Reads and writes of many items, one after the other (API Reference: BatchGetItem, BatchWriteItem).
use Rattle.std.specs.Prelude.{ℕ, suc, ◌-◌, List, [], ◌∷◌, map, length, take, drop, filter_map, nat_lt, Bool, false, ◌||◌, if◌then◌else◌}
use Rattle.std.specs.Prelude.{Option, None, Some, option_map, unwrap_or, Result, Ok, Err}
use Rattle.std.specs.List.{list_any, flat_map}
use Rattle.std.specs.BTreeMap.{is_at}
use Rattle.attr_value.specs.Tree.{Attributes}
use Rattle.attr_value.specs.Sizes.{item_size}
use Rattle.update_eval.specs.declared.fault.EvalFault.TheVariants.{IndexKey}
use Rattle.item_keys.specs.declared.fault.KeyFault.{KeyFault}
use Rattle.item_keys.specs.declared.key.Key.{Key}
use Rattle.row_keys.specs.declared.row_key.RowKey.{RowKey}
use Rattle.item_keys.specs.ItemKey.{key_in, key_alone}
use Rattle.capacity.specs.Units.{read_halves}
use Rattle.table_request.specs.declared.consumed.Consumed.{Consumed}
use Rattle.table_request.specs.declared.batches.BatchGet.{BatchGet}
use Rattle.table_request.specs.declared.batches.BatchWrite.{BatchWrite}
use Rattle.table_request.specs.declared.batches.TableKeys.{TableKeys}
use Rattle.table_request.specs.declared.batches.TableWrites.{TableWrites}
use Rattle.table_request.specs.declared.batches.WriteRequest.{WriteRequest}
use Rattle.table_request.specs.declared.batches.WriteRequest.TheVariants.{Put, Delete}
use Rattle.table_model.specs.declared.reply.FoundItems.{FoundItems}
use Rattle.table_model.specs.declared.reply.Reply.TheVariants.{BatchRead, BatchWritten}
use Rattle.table_model.specs.declared.refusal.Refusal.{Refusal}
use Rattle.table_model.specs.declared.refusal.Refusal.TheVariants.{Invalid, NoTable}
use Rattle.table_model.specs.declared.refusal.Invalid.TheVariants as invalid
use Rattle.row_keys.specs.Keys.{row_key, row_order}
use Rattle.row_keys.specs.Rows.{item_at, is_refused}
use Rattle.table_model.specs.Outcome.{is_too_large}
use Rattle.table_model.specs.Reads.{view}
use Rattle.table_model.specs.Database.{Database, Table, Effect, table_named, with_row, unless, first, where_true}
use Rattle.table_model.specs.Consumed.{where_asked, bytes_of, read_mode, halves_written, used_by_all}

-- ---- tables and keys

abbrev pub missing_if : List ℕ → Option Table → Option Refusal
missing_if name None = Some (NoTable name)
missing_if name (Some table) = None

-- the refusal of a table that is not there
abbrev pub missing : Database → List ℕ → Option Refusal
missing db name = missing_if name (table_named db name)

abbrev pub key_refusal : Result Key KeyFault → Option Refusal
key_refusal (Ok key) = None
key_refusal (Err fault) = Some (Invalid (invalid.Key fault))

abbrev pub place_if : Result Key KeyFault → Option RowKey
place_if (Ok key) = Some (row_key key)
place_if (Err fault) = None

-- some key stands twice
abbrev pub has_twice : List RowKey → Bool
has_twice [] = false
has_twice (key ∷ keys) = list_any (is_at (row_order key)) keys || has_twice keys

-- ---- BatchGetItem

-- the keys that are asked of a table, each with its fault where it has one
abbrev pub asked_keys_if : Option Table → TableKeys → List (Result Key KeyFault)
asked_keys_if None t = []
asked_keys_if (Some table) t = map (λ key. key_alone table.schema table.schema.keys key) t.keys

abbrev pub asked_keys : Database → TableKeys → List (Result Key KeyFault)
asked_keys db t = asked_keys_if (table_named db t.table) t

-- the items that are asked of a table, where they are there
abbrev pub asked_items_if : Option Table → List RowKey → List (Option Attributes)
asked_items_if None keys = []
asked_items_if (Some table) keys = map (item_at table.rows) keys

abbrev pub asked_items : Database → TableKeys → List (Option Attributes)
asked_items db t = asked_items_if (table_named db t.table) (filter_map place_if (asked_keys db t))

-- the most bytes of the items that are read together
abbrev pub most_batch_bytes : ℕ
most_batch_bytes = 16777216

-- how many keys are read: those before the first item with which the items would have more bytes than there is room
abbrev pub read_count : ℕ → List (Option Attributes) → ℕ
read_count room [] = 0
read_count room (None ∷ items) = suc (read_count room items)
read_count room (Some item ∷ items) =
    if nat_lt room (item_size item) then 0 else suc (read_count (room - item_size item) items)

-- what is shown of the items of a table among the first `count` keys
abbrev pub found_in : Database → ℕ → TableKeys → FoundItems
found_in db count t = record {
  table = t.table;
  items = map (view t.projection) (filter_map (λ item. item) (take count (asked_items db t)));
}

-- of each table, what is found among the first `count` keys of all
abbrev pub found : Database → ℕ → List TableKeys → List FoundItems
found db count [] = []
found db count (t ∷ ts) = found_in db count t ∷ found db (count - length t.keys) ts

abbrev pub unread_in : TableKeys → List Attributes → List TableKeys → List TableKeys
unread_in t [] rest = rest
unread_in t (key ∷ keys) rest = record t { keys = key ∷ keys } ∷ rest

-- the tables with the keys behind the first `count` of all
abbrev pub unread : ℕ → List TableKeys → List TableKeys
unread count [] = []
unread count (t ∷ ts) = unread_in t (drop count t.keys) (unread (count - length t.keys) ts)

-- what the reads of a table use
abbrev pub used_by_keys : TableKeys → List (Option Attributes) → Consumed
used_by_keys t items = used_by_all t.table (λ item. read_halves (read_mode (unwrap_or t.consistent false)) (bytes_of item)) items

-- of each table, what is used by those among the first `count` keys of all
abbrev pub used_by_reads : Database → ℕ → List TableKeys → List Consumed
used_by_reads db count [] = []
used_by_reads db count (t ∷ ts) =
    used_by_keys t (take count (asked_items db t)) ∷ used_by_reads db (count - length t.keys) ts

-- the first refusal: of a table, then of a key, then of a key that stands twice
abbrev pub batch_get_refusal : Database → List TableKeys → Option Refusal
batch_get_refusal db ts =
    first
    (first (map (λ t. missing db t.table) ts)
    ∷ first (map key_refusal (flat_map (asked_keys db) ts))
    ∷ where_true (list_any (λ t. has_twice (filter_map place_if (asked_keys db t))) ts) (Invalid invalid.Twice)
    ∷ [])

abbrev pub batch_get : Database → BatchGet → Effect
batch_get db r =
    let count = read_count most_batch_bytes (flat_map (asked_items db) r.tables) in
    unless db (batch_get_refusal db r.tables)
    (db, BatchRead (found db count r.tables) (unread count r.tables) (where_asked r.capacity (used_by_reads db count r.tables)))

-- ---- BatchWriteItem

-- the key of a write
abbrev pub write_key : Table → WriteRequest → Result Key KeyFault
write_key table (Put item) = key_in table.schema table.schema.keys item
write_key table (Delete key) = key_alone table.schema table.schema.keys key

abbrev pub write_keys_if : Option Table → TableWrites → List (Result Key KeyFault)
write_keys_if None t = []
write_keys_if (Some table) t = map (write_key table) t.writes

abbrev pub write_keys : Database → TableWrites → List (Result Key KeyFault)
write_keys db t = write_keys_if (table_named db t.table) t

abbrev pub is_oversized : WriteRequest → Bool
is_oversized (Put item) = is_too_large item
is_oversized (Delete key) = false

abbrev pub is_unfit_write : Option Table → WriteRequest → Bool
is_unfit_write (Some table) (Put item) = is_refused table.schema item
is_unfit_write _ _ = false

-- the first refusal: of a table, of a key, of a key that stands twice, of an item's size, of an index's key
abbrev pub batch_write_refusal : Database → List TableWrites → Option Refusal
batch_write_refusal db ts =
    first
    (first (map (λ t. missing db t.table) ts)
    ∷ first (map key_refusal (flat_map (write_keys db) ts))
    ∷ where_true (list_any (λ t. has_twice (filter_map place_if (write_keys db t))) ts) (Invalid invalid.Twice)
    ∷ where_true (list_any (λ t. list_any is_oversized t.writes) ts) (Invalid invalid.ItemTooLarge)
    ∷ where_true (list_any (λ t. list_any (is_unfit_write (table_named db t.table)) t.writes) ts) (Invalid (invalid.Evaluation IndexKey))
    ∷ [])

abbrev pub write_image : WriteRequest → Option Attributes
write_image (Put item) = Some item
write_image (Delete key) = None

abbrev pub write_at : Database → List ℕ → Table → WriteRequest → Option RowKey → Database
write_at db name table write None = db
write_at db name table write (Some key) = with_row db name table key (write_image write)

abbrev pub write_if : Database → List ℕ → Option Table → WriteRequest → Database
write_if db name None write = db
write_if db name (Some table) write = write_at db name table write (place_if (write_key table write))

-- one write is made
abbrev pub write_one : Database → List ℕ → WriteRequest → Database
write_one db name write = write_if db name (table_named db name) write

-- the writes of a table are made, one after the other
abbrev pub write_table : Database → List ℕ → List WriteRequest → Database
write_table db name [] = db
write_table db name (write ∷ writes) = write_table (write_one db name write) name writes

-- the writes of all tables are made, table after table
abbrev pub write_all : Database → List TableWrites → Database
write_all db [] = db
write_all db (t ∷ ts) = write_all (write_table db t.table t.writes) ts

-- what a write at a key of a table uses
abbrev pub halves_at : Table → WriteRequest → Option RowKey → ℕ
halves_at table write None = 0
halves_at table write (Some key) = halves_written (item_at table.rows key) (write_image write)

abbrev pub write_halves_in : Table → WriteRequest → ℕ
write_halves_in table write = halves_at table write (place_if (write_key table write))

-- what the writes of a table use
abbrev pub used_if : Option Table → TableWrites → Option Consumed
used_if table t = option_map (λ found. used_by_all t.table (write_halves_in found) t.writes) table

-- of each table, what its writes use, as the items were before
abbrev pub used_by_writes : Database → List TableWrites → List Consumed
used_by_writes db ts = filter_map (λ t. used_if (table_named db t.table) t) ts

abbrev pub batch_write : Database → BatchWrite → Effect
batch_write db r =
    unless db (batch_write_refusal db r.tables)
    (write_all db r.tables, BatchWritten [] (where_asked r.capacity (used_by_writes db r.tables)))
