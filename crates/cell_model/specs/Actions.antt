-- What an action on an item says, and what it makes of the item (API Reference: PutItem, UpdateItem, DeleteItem,
-- TransactWriteItems).
use Rattle.std.specs.Prelude.{ℕ, List, [], Bool, true, false, Option, None, Some, option_map, unwrap_or, Result, Ok}
use Rattle.attr_value.specs.Tree.{Attributes, no_attributes}
use Rattle.attr_value.specs.declared.value.Value.{Value}
use Rattle.expr_words.specs.declared.tree.Condition.{Condition}
use Rattle.expr_words.specs.Trees.{Tree, tree}
use Rattle.expr_parse.specs.UpdateTree.{UpdateTree}
use Rattle.expr_parse.specs.Update.{update_tree}
use Rattle.table_request.specs.declared.items.PutItem.{PutItem}
use Rattle.table_request.specs.declared.items.UpdateItem.{UpdateItem}
use Rattle.table_request.specs.declared.items.DeleteItem.{DeleteItem}
use Rattle.table_request.specs.declared.transactions.TransactAction.{TransactAction}
use Rattle.table_request.specs.declared.transactions.ActionChange.{ActionChange}
use Rattle.table_request.specs.declared.transactions.ActionChange.TheVariants as change
use Rattle.condition_eval.specs.Truth.{true_of}
use Rattle.update_eval.specs.Updated.{updated}
use Rattle.update_eval.specs.declared.fault.EvalFault.{EvalFault}
use Rattle.table_schema.specs.declared.schema.Schema.{Schema}
use Rattle.table_model.specs.Outcome.{ItemOutcome, becomes, is_false, is_faulty, or_empty, where_met, fit_if, put_outcome, delete_outcome}
use Rattle.txn_core.specs.declared.outcome.Outcome.{Outcome}
use Rattle.txn_core.specs.declared.outcome.Outcome.TheVariants.{New, Unmet, Fails}
use Rattle.cell_model.specs.declared.action.Statement.{Statement}
use Rattle.cell_model.specs.declared.action.StatedChange.{StatedChange}
use Rattle.cell_model.specs.declared.action.StatedChange.TheVariants as stated
use Rattle.cell_model.specs.declared.key.CellKey.{CellKey}
use Rattle.cell_model.specs.declared.catalog.Catalog.{Catalog}
use Rattle.cell_model.specs.declared.catalog.CatalogTable.{CatalogTable}
use Rattle.cell_model.specs.Keys.{table_of}
use Rattle.cell_model.specs.Catalogs.{numbered}

-- what becomes of an item, updates by their trees; an update may have none
pub data ItemChange : Type 0 where
  Put : Attributes → ItemChange
  Update : Attributes → Option UpdateTree → ItemChange
  Delete : Attributes → ItemChange
  Check : Attributes → ItemChange

-- an action on the item of a key, its condition by its tree; the name is the table's
pub record ItemAction : Type 0 where
  pub key : CellKey
  pub table : List ℕ
  pub change : ItemChange
  pub condition : Option Tree
  pub values : List Value
  pub show_old : Bool

-- the action that says this of the item of a key
abbrev pub action_saying : CellKey → List ℕ → ItemChange → Option Condition → List Value → Bool → ItemAction
action_saying key table change condition values show_old = record {
  key = key;
  table = table;
  change = change;
  condition = option_map tree condition;
  values = values;
  show_old = show_old;
}

abbrev pub change_of : StatedChange → ItemChange
change_of (stated.Put item) = Put item
change_of (stated.Update key update) = Update key (option_map update_tree update)
change_of (stated.Delete key) = Delete key
change_of (stated.Check key) = Check key

-- what a statement says of the item of a key
abbrev pub action_of : CellKey → Statement → ItemAction
action_of key s = action_saying key s.table (change_of s.change) s.condition s.values s.show_old

-- ---- what requests say of the item of a key

abbrev pub stated_put : CellKey → PutItem → ItemAction
stated_put key r = action_saying key r.table (Put r.item) r.condition r.values r.show_old

abbrev pub stated_update : CellKey → UpdateItem → ItemAction
stated_update key r = action_saying key r.table (Update r.key (option_map update_tree r.update)) r.condition r.values r.show_old

abbrev pub stated_delete : CellKey → DeleteItem → ItemAction
stated_delete key r = action_saying key r.table (Delete r.key) r.condition r.values r.show_old

-- an action of a transaction always has a tree where it updates
abbrev pub stated_change : ActionChange → ItemChange
stated_change (change.Put item) = Put item
stated_change (change.Update key update) = Update key (Some (update_tree update))
stated_change (change.Delete key) = Delete key
stated_change (change.Check key) = Check key

abbrev pub stated_action : CellKey → TransactAction → ItemAction
stated_action key a = action_saying key a.table (stated_change a.change) a.condition a.values a.show_old

-- the action that removes the item of a key: a delete without a condition. No request asked for it, so it names no table
abbrev pub removal : CellKey → ItemAction
removal key = action_saying key [] (Delete no_attributes) None [] false

-- ---- what an action makes of its item

-- the condition is true of the item, or there is none
abbrev pub is_met : Option Tree → List Value → Option Attributes → Bool
is_met None values item = true
is_met (Some condition) values item = true_of values (or_empty item) condition

-- what an update makes of an item, which stays as it is where there is no tree
abbrev pub updated_by : Option UpdateTree → List Value → Attributes → Result Attributes EvalFault
updated_by None values item = Ok item
updated_by (Some update) values item = updated values item update

-- what a change makes of an item that may be there; an update works on the key alone where the item is absent
abbrev pub change_outcome : Schema → List Value → Option Attributes → ItemChange → ItemOutcome
change_outcome schema values old (Put item) = put_outcome schema item
change_outcome schema values old (Update key update) = fit_if schema (updated_by update values (unwrap_or old key))
change_outcome schema values old (Delete key) = delete_outcome
change_outcome schema values old (Check key) = becomes old

-- the same of an action, in a table of this schema
abbrev pub action_outcome : Schema → ItemAction → Option Attributes → ItemOutcome
action_outcome schema action old =
    where_met (is_met action.condition action.values old) (change_outcome schema action.values old action.change)

-- in the words of the protocol
abbrev pub outcome_of : ItemOutcome → Outcome Attributes EvalFault
outcome_of (becomes item) = New item
outcome_of is_false = Unmet
outcome_of (is_faulty fault) = Fails fault

-- an action in a table that may not be there, of which nothing is kept
abbrev pub outcome_in : Option CatalogTable → ItemAction → Option Attributes → Outcome Attributes EvalFault
outcome_in None action old = New None
outcome_in (Some table) action old = outcome_of (action_outcome table.schema action old)

-- an action under a catalog
abbrev pub act : Catalog → ItemAction → Option Attributes → Outcome Attributes EvalFault
act catalog action old = outcome_in (numbered catalog.tables (table_of action.key)) action old
