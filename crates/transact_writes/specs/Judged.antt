-- What is made of each action before anything is changed: a change that is accepted, or the reason why it is not.
use Rattle.std.specs.Prelude.{◌≡◌, ⊤, ℕ, List, filter_map, if◌then◌else◌, Option, None, Some, option_map, Result, Ok, Err}
use Rattle.std.specs.List.Sorted.{IsStrictlySortedBy}
use Rattle.std.specs.Map.{keys_of}
use Rattle.attr_value.specs.Tree.{Attributes}
use Rattle.row_keys.specs.declared.row_key.RowKey.{RowKey}
use Rattle.row_keys.specs.Keys.{row_order}
use Rattle.row_keys.specs.Rows.{item_at}
use Rattle.table_rows.specs.View.{TableView}
use Rattle.table_request.specs.declared.transactions.TransactAction.{TransactAction}
use Rattle.table_request.specs.declared.transactions.ActionChange.{ActionChange}
use Rattle.table_request.specs.declared.transactions.ActionChange.TheVariants.{Check}
use Rattle.table_model.specs.declared.refusal.Reason.{Reason}
use Rattle.table_model.specs.declared.refusal.Reason.TheVariants as reason
use Rattle.table_model.specs.Outcome.{ItemOutcome, becomes, is_false, is_faulty}
use Rattle.table_model.specs.Database.{Database, Table, table_named}
use Rattle.table_model.specs.Transactions.{Target, target_of, action_outcome, outcome_of, reason_if}
use Rattle.numbered_tables.specs.declared.change.TableChange.{TableChange}

-- the change that an action makes where it is accepted; a check makes none
abbrev pub change_if : List ℕ → ActionChange → Option Target → Option Attributes → Option TableChange
change_if name (Check key) target new = None
change_if name change None new = None
change_if name change (Some target) new = Some (record { table = name; key = target.key; new = new })

abbrev pub judged_if : Database → TransactAction → ItemOutcome → Result (Option TableChange) Reason
judged_if db action (becomes new) = Ok (change_if action.table action.change (target_of db action) new)
judged_if db action is_false = Err (reason_if db action is_false)
judged_if db action (is_faulty fault) = Err (reason_if db action (is_faulty fault))

-- the change that an action makes, or the reason why it is not accepted
abbrev pub judged : Database → TransactAction → Result (Option TableChange) Reason
judged db action = judged_if db action (outcome_of db action)

abbrev pub change_in : Result (Option TableChange) Reason → Option TableChange
change_in (Ok change) = change
change_in (Err reason) = None

-- the changes that the accepted actions make
abbrev pub changes_of : Database → List TransactAction → List TableChange
changes_of db actions = filter_map (λ action. change_in (judged db action)) actions

-- ---- the same of an action on an item of one table

abbrev pub change_at : List ℕ → RowKey → ActionChange → Option Attributes → Option TableChange
change_at name key (Check stated) new = None
change_at name key change new = Some (record { table = name; key = key; new = new })

abbrev pub judged_by : RowKey → TransactAction → Option Attributes → ItemOutcome → Result (Option TableChange) Reason
judged_by key action old (becomes new) = Ok (change_at action.table key action.change new)
judged_by key action old is_false = Err (reason.ConditionFalse (if action.show_old then old else None))
judged_by key action old (is_faulty fault) = Err (reason.Invalid fault)

abbrev pub judged_in : TableView → RowKey → TransactAction → Result (Option TableChange) Reason
judged_in rows key action =
    let old = item_at rows.rows key in
    judged_by key action old (action_outcome rows.schema action old)

-- the action's item is at this key
abbrev pub IsAt : Database → TransactAction → RowKey → Type 0
IsAt db action key = option_map (λ target. target.key) (target_of db action) ≡ Some key

-- ---- rows in order

abbrev pub AreInOrderIf : Option Table → Type 0
AreInOrderIf None = ⊤
AreInOrderIf (Some table) = IsStrictlySortedBy row_order (keys_of table.rows)

-- the rows of the action's table are in order
abbrev pub IsInOrder : Database → TransactAction → Type 0
IsInOrder db action = AreInOrderIf (table_named db action.table)
