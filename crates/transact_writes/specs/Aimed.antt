-- Actions with the numbers of their tables and the keys of their items.
use Rattle.std.specs.Prelude.{◌≡◌, List, [], ◌∷◌, map, false, Option, None, Some, Result, Ok, Err}
use Rattle.std.specs.List.{AllByRecursion}
use Rattle.std.specs.FinMap.{empty}
use Rattle.table_request.specs.declared.transactions.TransactAction.{TransactAction}
use Rattle.table_model.specs.declared.refusal.Refusal.{Refusal}
use Rattle.table_model.specs.declared.refusal.Refusal.TheVariants.{Invalid}
use Rattle.table_model.specs.declared.refusal.Invalid.TheVariants as invalid
use Rattle.table_model.specs.Database.{Database, first, where_true}
use Rattle.table_model.specs.Batches.{missing}
use Rattle.table_model.specs.Transactions.{Target, has_repeat, target_of, bad_key, updates_key, transact_refusal}
use Rattle.numbered_tables.specs.Tables.{Kept, database_in}
use Rattle.transact_writes.specs.declared.aim.Place.{Place}
use Rattle.transact_writes.specs.declared.aimed.Aimed.{Aimed}
use Rattle.transact_writes.specs.Judged.{IsInOrder}

-- the database of these tables alone
abbrev pub database_of : Kept → Database
database_of tables = database_in tables empty 0

abbrev pub action_in : Aimed → TransactAction
action_in aimed = aimed.action.action

-- the item of an action
abbrev pub target_in : Aimed → Target
target_in aimed = record { name = aimed.action.action.table; number = aimed.action.table; key = aimed.key }

-- the refusal of an action: of its table, or of its key
abbrev pub refusal_at : Database → TransactAction → Option Refusal
refusal_at db action = first (missing db action.table ∷ bad_key db action ∷ [])

-- an action is refused, or its item has this place
abbrev pub IsPlaced : Database → TransactAction → Result Place Refusal → Type 0
IsPlaced db action (Err refusal) = refusal_at db action ≡ Some refusal
IsPlaced db action (Ok place) =
    (refusal_at db action ≡ None) × (target_of db action ≡ Some (record { name = action.table; number = place.table; key = place.key }))
    × IsInOrder db action

-- the action's item is the one that it is said to be
abbrev pub IsTarget : Database → Aimed → Type 0
IsTarget db aimed = (target_of db (action_in aimed) ≡ Some (target_in aimed)) × IsInOrder db (action_in aimed)

-- an action is refused, or has its number and key
abbrev pub IsAimed : Database → TransactAction → Result Aimed Refusal → Type 0
IsAimed db action (Err refusal) = refusal_at db action ≡ Some refusal
IsAimed db action (Ok aimed) = (refusal_at db action ≡ None) × (action_in aimed ≡ action) × IsTarget db aimed

-- the first of the actions that is refused is, or all have their numbers and keys
abbrev pub AreAimed : Database → List TransactAction → Result (List Aimed) Refusal → Type 0
AreAimed db actions (Err refusal) = first (map (refusal_at db) actions) ≡ Some refusal
AreAimed db actions (Ok aimed) =
    (first (map (refusal_at db) actions) ≡ None) × (map action_in aimed ≡ actions) × AllByRecursion (IsTarget db) aimed

-- actions that are not refused: each has its number and key, and no item stands twice
pub record AreFit (db : Database) (aimed : List Aimed) : Type 0 where
  pub targets : AllByRecursion (IsTarget db) aimed
  pub apart : has_repeat (map target_in aimed) ≡ false

abbrev pub twice_or_key : Database → List Aimed → Option Refusal
twice_or_key db aimed =
    first
    (where_true (has_repeat (map target_in aimed)) (Invalid invalid.Twice) ∷ first (map (updates_key db) (map action_in aimed)) ∷ [])

-- an item stands twice, or a key attribute is updated; or the actions are fit
abbrev pub IsFit : Database → List Aimed → Result (List Aimed) Refusal → Type 0
IsFit db aimed (Err refusal) = twice_or_key db aimed ≡ Some refusal
IsFit db aimed (Ok fit) = (twice_or_key db aimed ≡ None) × (fit ≡ aimed) × (has_repeat (map target_in aimed) ≡ false)

-- the request is refused, or its actions are fit
abbrev pub IsChecked : Database → List TransactAction → Result (List Aimed) Refusal → Type 0
IsChecked db actions (Err refusal) = transact_refusal db actions ≡ Some refusal
IsChecked db actions (Ok aimed) = (transact_refusal db actions ≡ None) × (map action_in aimed ≡ actions) × AreFit db aimed
