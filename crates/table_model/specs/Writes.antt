-- Writes of one item (API Reference: PutItem, UpdateItem, DeleteItem).
use Rattle.std.specs.Prelude.{ℕ, List, Bool, if◌then◌else◌, Option, None, Some, option_map}
use Rattle.attr_value.specs.Tree.{Attributes, no_attributes, attribute}
use Rattle.expr_parse.specs.declared.tree.Update.{Update}
use Rattle.expr_parse.specs.Update.{update_tree}
use Rattle.update_eval.specs.Places.{touches}
use Rattle.update_eval.specs.declared.fault.EvalFault.{EvalFault}
use Rattle.update_eval.specs.declared.fault.EvalFault.TheVariants.{ItemTooLarge}
use Rattle.item_keys.specs.declared.key.Key.{Key}
use Rattle.item_keys.specs.ItemKey.{key_in, key_alone}
use Rattle.item_keys.specs.Row.{only}
use Rattle.table_schema.specs.declared.keys.KeyNames.{KeyNames}
use Rattle.table_request.specs.declared.consumed.Consumed.{Consumed}
use Rattle.table_request.specs.declared.items.ReturnValues.{ReturnValues}
use Rattle.table_request.specs.declared.items.ReturnValues.TheVariants as show
use Rattle.table_request.specs.declared.items.PutItem.{PutItem}
use Rattle.table_request.specs.declared.items.UpdateItem.{UpdateItem}
use Rattle.table_request.specs.declared.items.DeleteItem.{DeleteItem}
use Rattle.table_model.specs.declared.reply.Reply.{Reply}
use Rattle.table_model.specs.declared.reply.Reply.TheVariants.{Written}
use Rattle.table_model.specs.declared.refusal.Refusal.{Refusal}
use Rattle.table_model.specs.declared.refusal.Refusal.TheVariants.{Invalid, ConditionFailed}
use Rattle.table_model.specs.declared.refusal.Invalid as why
use Rattle.table_model.specs.declared.refusal.Invalid.TheVariants as invalid
use Rattle.row_keys.specs.Keys.{row_key}
use Rattle.row_keys.specs.Rows.{item_at}
use Rattle.table_model.specs.Outcome.{ItemOutcome, becomes, is_false, is_faulty, is_met, where_met, put_outcome, update_outcome, delete_outcome}
use Rattle.table_model.specs.Database.{Database, Table, Effect, table_named, with_row, refused, in_table, at_key, unless}
use Rattle.table_model.specs.Consumed.{where_asked, halves_written, used_of}

-- ---- what is shown

-- nothing is shown of an item without attributes
abbrev pub some_of : Attributes → Option Attributes
some_of no_attributes = None
some_of (attribute name value rest) = Some (attribute name value rest)

-- the attributes of an item at or below which the update writes
abbrev pub touched_in : Option Update → Option Attributes → Option Attributes
touched_in (Some update) (Some item) = some_of (only (touches (update_tree update)) item)
touched_in _ _ = None

-- what is shown of the item as it was and as it is
abbrev pub shown : ReturnValues → Option Update → Option Attributes → Option Attributes → Option Attributes
shown show.None update old new = None
shown show.AllOld update old new = old
shown show.AllNew update old new = new
shown show.UpdatedOld update old new = touched_in update old
shown show.UpdatedNew update old new = touched_in update new

-- what the write of an item uses
abbrev pub used_by_write : Bool → List ℕ → Option Attributes → Option Attributes → Option Consumed
used_by_write asked name old new = where_asked asked (used_of name (halves_written old new))

-- what is told of a write that was made
abbrev pub told_written : Bool → List ℕ → ReturnValues → Option Update → Option Attributes → Option Attributes → Reply
told_written asked name show update old new = Written (shown show update old new) (used_by_write asked name old new)

-- ---- a write at a key

abbrev pub touched_name : Update → Option (List ℕ) → Option (List ℕ)
touched_name update None = None
touched_name update (Some name) = if touches (update_tree update) name then Some name else None

-- the key attribute at or below which an update writes, the partition key first
abbrev pub touched_key : KeyNames → Option Update → Option (List ℕ)
touched_key keys None = None
touched_key keys (Some update) =
    if touches (update_tree update) keys.partition then Some keys.partition else touched_name update keys.sort

abbrev pub key_update : KeyNames → Option Update → Option Refusal
key_update keys update = option_map (λ name. Invalid (invalid.UpdateOfKey name)) (touched_key keys update)

-- why an item can't be put, which has a text of its own where it is too large
abbrev pub put_fault : EvalFault → why.Invalid
put_fault ItemTooLarge = invalid.ItemTooLarge
put_fault fault = invalid.Evaluation fault

-- the item of which a condition was false, where it is to be shown
abbrev pub shown_if : Bool → Option Attributes → Option Attributes
shown_if asked old = if asked then old else None

-- what becomes of a table by the outcome of a write at a key; `lost` is what is shown where the condition is false, and
-- `told` what is told of a write that is made
abbrev pub written : Database → List ℕ → Table → Key → Option Attributes → (EvalFault → why.Invalid) → (Option Attributes → Reply) → ItemOutcome → Effect
written db name table key lost fault told (becomes new) = (with_row db name table (row_key key) new, told new)
written db name table key lost fault told is_false = refused db (ConditionFailed lost)
written db name table key lost fault told (is_faulty why) = refused db (Invalid (fault why))

-- the item of a table at a key
abbrev pub old_at : Table → Key → Option Attributes
old_at table key = item_at table.rows (row_key key)

abbrev pub put_at : Database → PutItem → Table → Key → Effect
put_at db r table key =
    let old = old_at table key in
    written db r.table table key (shown_if r.show_old old) put_fault (told_written r.capacity r.table r.return_values None old)
    (where_met (is_met r.condition r.values old) (put_outcome table.schema r.item))

abbrev pub put_item : Database → PutItem → Effect
put_item db r =
    in_table db r.table (table_named db r.table)
    (λ table. at_key db (key_in table.schema table.schema.keys r.item) (put_at db r table))

abbrev pub update_at : Database → UpdateItem → Table → Key → Effect
update_at db r table key =
    let old = old_at table key in
    written db r.table table key (shown_if r.show_old old) invalid.Evaluation (told_written r.capacity r.table r.return_values r.update old)
    (where_met (is_met r.condition r.values old) (update_outcome table.schema r.update r.values r.key old))

abbrev pub update_item : Database → UpdateItem → Effect
update_item db r =
    in_table db r.table (table_named db r.table)
    (λ table. at_key db (key_alone table.schema table.schema.keys r.key)
    (λ key. unless db (key_update table.schema.keys r.update) (update_at db r table key)))

abbrev pub delete_at : Database → DeleteItem → Table → Key → Effect
delete_at db r table key =
    let old = old_at table key in
    written db r.table table key (shown_if r.show_old old) invalid.Evaluation (told_written r.capacity r.table r.return_values None old)
    (where_met (is_met r.condition r.values old) delete_outcome)

abbrev pub delete_item : Database → DeleteItem → Effect
delete_item db r =
    in_table db r.table (table_named db r.table)
    (λ table. at_key db (key_alone table.schema table.schema.keys r.key) (delete_at db r table))
