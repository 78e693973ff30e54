-- Which actions a request states, by tables that Looks told of.
use Rattle.std.specs.Prelude.{◌≡◌, ℕ, List, map, reverse, None, Some, Result, Ok, Err}
use Rattle.std.specs.List.{AllZip}
use Rattle.turnstile.specs.Passes.{PassView}
use Rattle.row_keys.specs.declared.row_key.RowKey.{RowKey}
use Rattle.table_request.specs.declared.transactions.TransactAction.{TransactAction}
use Rattle.table_model.specs.declared.refusal.Refusal.{Refusal}
use Rattle.table_model.specs.Database.{first}
use Rattle.table_model.specs.Batches.{missing, place_if}
use Rattle.table_model.specs.Transactions.{change_key, transact_refusal}
use Rattle.numbered_tables.specs.Tables.{Kept}
use Rattle.transact_writes.specs.declared.aimed.Aimed.{Aimed}
use Rattle.transact_writes.specs.Aimed.{database_of, IsChecked}
use Rattle.cell_model.specs.declared.answer.TableLook.{TableLook}
use Rattle.cell_model.specs.declared.key.CellKey.{CellKey}
use Rattle.cell_model.specs.declared.key.CellKey.TheVariants.{Item}
use Rattle.cell_model.specs.Actions.{ItemAction, stated_action}
use Rattle.table_history.specs.Entries.{TableEvent}
use Rattle.cell_asks.specs.Steps.{IsInVain}
use Rattle.cell_asks.specs.Told.{WasTold}
use Rattle.transact_calls.specs.declared.keyed.Stated.{Stated}
use Rattle.transact_calls.specs.Looks.{Told, LookedAll, FindsRefusal}

-- where the table of a number has the item of a row
abbrev pub item_at : ℕ → RowKey → CellKey
item_at number row = Item (record { table = number; key = row })

-- an action of a request is this one on its item: its table is one that a Look told of in this history, and has this row's key
pub record IsStated (es : List TableEvent) (asked : TransactAction) (action : ItemAction) : Type 0 where
  pub look : TableLook
  pub told : WasTold es asked.table look
  pub row : RowKey
  pub row_is : place_if (change_key look.schema asked.change) ≡ Some row
  pub is : action ≡ stated_action (item_at look.number row) asked

-- all actions of a request, in order
abbrev pub AreStated : List TableEvent → List TransactAction → List ItemAction → Type 0
AreStated es asked actions = AllZip (IsStated es) asked actions

-- an action that was checked, on its item
abbrev pub keyed_of : Aimed → ItemAction
keyed_of aimed = stated_action (item_at aimed.action.table aimed.key) aimed.action.action

-- by these tables the request is refused, or these are its actions on their items
abbrev pub IsKeyed : Kept → List TransactAction → Result (List ItemAction) Refusal → Type 0
IsKeyed entries asked (Err why) = transact_refusal (database_of entries) asked ≡ Some why
IsKeyed entries asked (Ok actions) = (aimed : List Aimed) × IsChecked (database_of entries) asked (Ok aimed) × (actions ≡ map keyed_of aimed)

abbrev pub IsStatedBy : Kept → List TransactAction → Stated → Type 0
IsStatedBy entries asked (Stated.Actions actions) = IsKeyed entries asked (Ok actions)
IsStatedBy entries asked (Stated.Refused why) = IsKeyed entries asked (Err why)
IsStatedBy entries asked Stated.Again = ⊥

-- no table of the request is missing among these
abbrev pub NoneMisses : Kept → List TransactAction → Type 0
NoneMisses entries asked = first (map (λ action. missing (database_of entries) action.table) asked) ≡ None

module _ (n : ℕ) (p : PassView TableEvent) (asked : List TransactAction) where
  -- by tables that were told of before or by own Looks, these are the actions
  pub record FindsActions (actions : List ItemAction) (q : PassView TableEvent) : Type 0 where
    pub told : Told
    pub looks : LookedAll n p told q
    pub stated : AreStated (reverse q.front) asked actions

  abbrev pub Finds : Stated → PassView TableEvent → Type 0
  Finds (Stated.Actions actions) q = FindsActions actions q
  Finds (Stated.Refused why) q = FindsRefusal n p (λ db. transact_refusal db asked) why q
  Finds Stated.Again q = IsInVain n p q
