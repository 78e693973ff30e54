-- What a write at a key does to the table as it is kept.
use Rattle.std.specs.Prelude.{◌≡◌, List, Option, None, Some}
use Rattle.attr_value.specs.declared.value.Value.{Value}
use Rattle.expr_words.specs.declared.tree.Condition.{Condition}
use Rattle.expr_parse.specs.declared.tree.Update.{Update}
use Rattle.attr_value.specs.Tree.{Attributes}
use Rattle.update_eval.specs.declared.fault.EvalFault.{EvalFault}
use Rattle.row_keys.specs.declared.row_key.RowKey.{RowKey}
use Rattle.row_keys.specs.Rows.{item_at, with_item}
use Rattle.table_rows.specs.View.{TableView}
use Rattle.table_request.specs.declared.items.PutItem.{PutItem}
use Rattle.table_request.specs.declared.items.UpdateItem.{UpdateItem}
use Rattle.table_request.specs.declared.items.DeleteItem.{DeleteItem}
use Rattle.table_model.specs.declared.reply.Reply.{Reply}
use Rattle.table_model.specs.declared.reply.Reply.TheVariants.{Refused}
use Rattle.table_model.specs.declared.refusal.Refusal.{Refusal}
use Rattle.table_model.specs.declared.refusal.Refusal.TheVariants.{Invalid, ConditionFailed}
use Rattle.table_model.specs.declared.refusal.Invalid as why
use Rattle.table_model.specs.declared.refusal.Invalid.TheVariants as invalid
use Rattle.table_model.specs.Outcome.{ItemOutcome, becomes, is_false, is_faulty, is_met, where_met, put_outcome, update_outcome, delete_outcome}
use Rattle.table_model.specs.Writes.{told_written, shown_if, put_fault, key_update}
use Rattle.table_items.specs.declared.telling.Telling.{Telling}

-- the table stays, and this is the refusal
abbrev pub IsRefused : TableView → Refusal → TableView → Reply → Type 0
IsRefused old refusal new reply = (new ≡ old) × (reply ≡ Refused refusal)

-- the item at a key is this one or none, and this is told
abbrev pub IsMade : TableView → RowKey → Option Attributes → Reply → TableView → Reply → Type 0
IsMade old key item told new reply = (new ≡ record old { rows = with_item old.rows key item }) × (reply ≡ told)

-- the outcome of a write at a key is made and told; `lost` is what is shown where the condition is false, and `told` what
-- is told of a write that is made
abbrev pub IsWritten :
    TableView → RowKey → Option Attributes → (EvalFault → why.Invalid) → (Option Attributes → Reply) → ItemOutcome → TableView → Reply → Type 0
IsWritten old key lost fault told (becomes item) new reply = IsMade old key item (told item) new reply
IsWritten old key lost fault told is_false new reply = IsRefused old (ConditionFailed lost) new reply
IsWritten old key lost fault told (is_faulty why) new reply = IsRefused old (Invalid (fault why)) new reply

-- what is told of a write that makes the one item of the other
abbrev pub told_of : Telling → Option Update → Option Attributes → Option Attributes → Reply
told_of t update old new = told_written t.capacity t.table t.return_values update old new

-- a put of an item, of which this is told
abbrev pub put_of : Attributes → Option Condition → List Value → Telling → PutItem
put_of item condition values t = record {
  table = t.table;
  item = item;
  condition = condition;
  values = values;
  return_values = t.return_values;
  show_old = t.show_old;
  capacity = t.capacity;
}

-- a put at a key
abbrev pub IsPut : PutItem → TableView → RowKey → TableView → Reply → Type 0
IsPut r old key new reply =
    let item = item_at old.rows key in
    IsWritten old key (shown_if r.show_old item) put_fault (told_written r.capacity r.table r.return_values None item)
    (where_met (is_met r.condition r.values item) (put_outcome old.schema r.item)) new reply

-- an update of an item, of which this is told
abbrev pub update_of : Attributes → Option Update → Option Condition → List Value → Telling → UpdateItem
update_of key update condition values t = record {
  table = t.table;
  key = key;
  update = update;
  condition = condition;
  values = values;
  return_values = t.return_values;
  show_old = t.show_old;
  capacity = t.capacity;
}

-- an update at a key, which it does not write
abbrev pub IsUpdate : UpdateItem → TableView → RowKey → TableView → Reply → Type 0
IsUpdate r old key new reply =
    let item = item_at old.rows key in
    IsWritten old key (shown_if r.show_old item) invalid.Evaluation (told_written r.capacity r.table r.return_values r.update item)
    (where_met (is_met r.condition r.values item) (update_outcome old.schema r.update r.values r.key item)) new reply

-- the refusal, or what is done where there is none
abbrev pub IsUnless : Option Refusal → TableView → TableView → Reply → Type 0 → Type 0
IsUnless None old new reply P = P
IsUnless (Some refusal) old new reply P = IsRefused old refusal new reply

-- an update at a key
abbrev pub IsUpdateAt : UpdateItem → TableView → RowKey → TableView → Reply → Type 0
IsUpdateAt r old key new reply = IsUnless (key_update old.schema.keys r.update) old new reply (IsUpdate r old key new reply)

-- a delete of an item, of which this is told
abbrev pub delete_of : Attributes → Option Condition → List Value → Telling → DeleteItem
delete_of key condition values t = record {
  table = t.table;
  key = key;
  condition = condition;
  values = values;
  return_values = t.return_values;
  show_old = t.show_old;
  capacity = t.capacity;
}

-- a delete at a key
abbrev pub IsDelete : DeleteItem → TableView → RowKey → TableView → Reply → Type 0
IsDelete r old key new reply =
    let item = item_at old.rows key in
    IsWritten old key (shown_if r.show_old item) invalid.Evaluation (told_written r.capacity r.table r.return_values None item)
    (where_met (is_met r.condition r.values item) delete_outcome) new reply
