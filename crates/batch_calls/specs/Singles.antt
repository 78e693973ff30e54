-- What a request on many items asks for each key, or each write, alone (API Reference: BatchGetItem, BatchWriteItem).
use Rattle.std.specs.Prelude.{ℕ, List, [], map, false, None, Result}
use Rattle.std.specs.List.{flat_map}
use Rattle.attr_value.specs.Tree.{Attributes}
use Rattle.item_keys.specs.declared.fault.KeyFault.{KeyFault}
use Rattle.item_keys.specs.declared.key.Key.{Key}
use Rattle.item_keys.specs.ItemKey.{key_in, key_alone}
use Rattle.table_schema.specs.declared.schema.Schema.{Schema}
use Rattle.table_request.specs.declared.request.Request.{Request}
use Rattle.table_request.specs.declared.request.Request.TheVariants as request
use Rattle.table_request.specs.declared.items.GetItem.{GetItem}
use Rattle.table_request.specs.declared.items.PutItem.{PutItem}
use Rattle.table_request.specs.declared.items.DeleteItem.{DeleteItem}
use Rattle.table_request.specs.declared.items.ReturnValues.TheVariants as returned
use Rattle.table_request.specs.declared.batches.TableKeys.{TableKeys}
use Rattle.table_request.specs.declared.batches.TableWrites.{TableWrites}
use Rattle.table_request.specs.declared.batches.WriteRequest.{WriteRequest}
use Rattle.table_request.specs.declared.batches.WriteRequest.TheVariants as write
use Rattle.cell_model.specs.declared.key.CellKey.{CellKey}
use Rattle.cell_model.specs.Actions.{ItemAction, ItemChange, Put, Delete, action_saying}

-- the whole item of a key
abbrev pub get_alone : List ℕ → Attributes → GetItem
get_alone table key = record { table = table; key = key; projection = None; consistent = false; capacity = false }

-- for each key in order
abbrev pub gets_of : TableKeys → List GetItem
gets_of t = map (get_alone t.table) t.keys

abbrev pub all_gets : List TableKeys → List GetItem
all_gets ts = flat_map gets_of ts

-- ---- writes

-- without a condition, and nothing is told of the item
abbrev pub put_alone : List ℕ → Attributes → PutItem
put_alone table item = record {
  table = table;
  item = item;
  condition = None;
  values = [];
  return_values = returned.None;
  show_old = false;
  capacity = false;
}

abbrev pub delete_alone : List ℕ → Attributes → DeleteItem
delete_alone table key = record {
  table = table;
  key = key;
  condition = None;
  values = [];
  return_values = returned.None;
  show_old = false;
  capacity = false;
}

abbrev pub write_alone : List ℕ → WriteRequest → Request
write_alone table (write.Put item) = request.PutItem (put_alone table item)
write_alone table (write.Delete key) = request.DeleteItem (delete_alone table key)

-- for each write in order, with the name of its table
abbrev pub writes_of : TableWrites → List (List ℕ × WriteRequest)
writes_of t = map (λ w. (t.table, w)) t.writes

abbrev pub all_writes : List TableWrites → List (List ℕ × WriteRequest)
all_writes ts = flat_map writes_of ts

-- the key of a write by its table's schema
abbrev pub key_written : Schema → WriteRequest → Result Key KeyFault
key_written schema (write.Put item) = key_in schema schema.keys item
key_written schema (write.Delete key) = key_alone schema schema.keys key

abbrev pub change_alone : WriteRequest → ItemChange
change_alone (write.Put item) = Put item
change_alone (write.Delete key) = Delete key

-- the write as an action on the item at a place
abbrev pub action_alone : List ℕ → WriteRequest → CellKey → ItemAction
action_alone table w at = action_saying at table (change_alone w) None [] false
