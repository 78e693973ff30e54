-- Single writes do to the databases that have a history's tables what the requests do that state them.
use Rattle.std.specs.Prelude.{◌≡◌, ℕ, List, [], ◌∷◌, ◌++◌, Bool, Option, None, Some, Ok, reverse}
use Rattle.attr_value.specs.Tree.{Attributes}
use Rattle.update_eval.specs.declared.fault.EvalFault.{EvalFault}
use Rattle.item_keys.specs.declared.key.Key.{Key}
use Rattle.item_keys.specs.ItemKey.{key_in, key_alone}
use Rattle.row_keys.specs.Keys.{row_key}
use Rattle.table_request.specs.declared.request.Request.{Request}
use Rattle.table_request.specs.declared.request.Request.TheVariants as request
use Rattle.table_model.specs.declared.reply.Reply.{Reply}
use Rattle.table_model.specs.declared.reply.Reply.TheVariants.{Refused}
use Rattle.table_model.specs.declared.refusal.Refusal.TheVariants as refusal
use Rattle.table_model.specs.declared.refusal.Invalid as why
use Rattle.table_model.specs.declared.refusal.Invalid.TheVariants as invalid
use Rattle.table_model.specs.Database.{Database}
use Rattle.table_model.specs.Writes.{told_written, key_update, put_fault, shown_if}
use Rattle.txn_core.specs.declared.message.Message.{Message}
use Rattle.txn_core.specs.declared.answer.Answer.{Answer}
use Rattle.txn_core.specs.Legal.{IsLegal}
use Rattle.txn_core.specs.Laws.{catalog_by}
use Rattle.cell_model.specs.declared.key.CellKey.{CellKey}
use Rattle.cell_model.specs.declared.key.CellKey.TheVariants.{Item}
use Rattle.cell_model.specs.declared.catalog.CatalogTable.{CatalogTable}
use Rattle.cell_model.specs.Actions.{ItemAction, stated_put, stated_update, stated_delete}
use Rattle.cell_model.specs.Catalogs.{numbered}
use Rattle.cell_model.specs.Service.{service}
use Rattle.table_history.specs.Entries.{TableAnswer, TableEvent}
use Rattle.table_history.specs.Standing.{HasTables}
use Rattle.table_history.specs.CommandEffects.{HasEffect}

-- where a table's item of this key is
abbrev pub item_key : CatalogTable → Key → CellKey
item_key table key = Item (record { table = table.number; key = row_key key })

-- the request is of this table, it has this key there, and no key attribute is updated: so it states this action
abbrev pub StatesWrite : Request → CatalogTable → Key → ItemAction → Type 0
StatesWrite (request.PutItem r) table key action =
    (table.schema.name ≡ r.table) × (key_in table.schema table.schema.keys r.item ≡ Ok key) × (action ≡ stated_put (item_key table key) r)
StatesWrite (request.UpdateItem r) table key action =
    (table.schema.name ≡ r.table) × (key_alone table.schema table.schema.keys r.key ≡ Ok key)
    × (key_update table.schema.keys r.update ≡ None) × (action ≡ stated_update (item_key table key) r)
StatesWrite (request.DeleteItem r) table key action =
    (table.schema.name ≡ r.table) × (key_alone table.schema table.schema.keys r.key ≡ Ok key) × (action ≡ stated_delete (item_key table key) r)
StatesWrite _ table key action = ⊥

-- the reply by the answer to a write, by the text of faults and what is told of items; of Held and Stale nothing is said
abbrev pub told_by : (EvalFault → why.Invalid) → Bool → (Option Attributes → Option Attributes → Reply) → TableAnswer → Option Reply
told_by fault show_old tell (Answer.Written old new) = Some (tell old new)
told_by fault show_old tell (Answer.CondFalse old) = Some (Refused (refusal.ConditionFailed (shown_if show_old old)))
told_by fault show_old tell (Answer.Invalid found) = Some (Refused (refusal.Invalid (fault found)))
told_by fault show_old tell _ = None

abbrev pub write_reply : Request → TableAnswer → Option Reply
write_reply (request.PutItem r) a = told_by put_fault r.show_old (told_written r.capacity r.table r.return_values None) a
write_reply (request.UpdateItem r) a = told_by invalid.Evaluation r.show_old (told_written r.capacity r.table r.return_values r.update) a
write_reply (request.DeleteItem r) a = told_by invalid.Evaluation r.show_old (told_written r.capacity r.table r.return_values None) a
write_reply _ a = None

-- the entry is the write of a request, by a table that is there, and was answered so
abbrev pub WritesAreEffects : ℕ → Type 0
WritesAreEffects n =
    (log : List TableEvent) (e : TableEvent) → IsLegal (service n) (reverse (log ++ e ∷ []))
    → (table : CatalogTable) → numbered (catalog_by (service n) (reverse log)).tables table.number ≡ Some table
    → (request : Request) (key : Key) (action : ItemAction) → StatesWrite request table key action → e.message ≡ Message.Write action
    → (reply : Reply) → write_reply request e.answer ≡ Some reply
    → (db : Database) → HasTables n log db → HasEffect n log e request reply db
