-- What the bodies of TransactWriteItems and TransactGetItems state (API Reference: TransactWriteItems, TransactGetItems).
use Rattle.std.specs.Prelude.{◌≡◌, ◌≤◌, ◌<◌, ◌+◌, ◌⊎◌, ℕ, List, Bool, map, sum_by, if◌then◌else◌, Option, Some, None, unwrap_or, Result, Ok, Err}
use Rattle.serde_json.specs.Data.{Data, Items, no_items, item}
use Rattle.attr_value.specs.declared.value.Value.{Value}
use Rattle.attr_value.specs.Sizes.{size, item_size}
use Rattle.attr_value.specs.View.{tree_of}
use Rattle.expr_parse.specs.Update.{update_tree}
use Rattle.api_form.specs.declared.name.Name.TheVariants as name
use Rattle.api_form.specs.declared.fault.Fault.TheVariants as fault
use Rattle.capacity.specs.declared.halves.Mode.TheVariants.{Transact}
use Rattle.capacity.specs.Units.{counted, write_halves}
use Rattle.table_request.specs.Usage.{by_table}
use Rattle.table_request.specs.declared.consumed.Consumed.{Consumed}
use Rattle.table_request.specs.declared.transactions.TransactWrite.{TransactWrite}
use Rattle.table_request.specs.declared.transactions.TransactAction.{TransactAction}
use Rattle.table_request.specs.declared.transactions.ActionChange.{ActionChange}
use Rattle.table_request.specs.declared.transactions.ActionChange.TheVariants as change
use Rattle.table_request.specs.declared.transactions.TransactGet.{TransactGet}
use Rattle.table_request.specs.declared.transactions.TransactRead.{TransactRead}
use Rattle.request_parts.specs.declared.refusal.Refusal.{Refusal}
use Rattle.request_parts.specs.declared.refusal.Refusal.TheVariants as refusal
use Rattle.api_request.specs.declared.action.Action as code
use Rattle.api_request.specs.declared.action.Action.TheVariants as shown
use Rattle.serde_json.specs.View.{view}
use Rattle.request_parts.specs.Members.{text_at, stated_text, list_at, item_at, object_at, each}
use Rattle.request_parts.specs.Placeholders.{known, known_names}
use Rattle.request_parts.specs.Expressions.{UpdateOf}
use Rattle.request_parts.specs.Asks.{Asks, AreParts, IsFirstRefused, writing}
use Rattle.request_parts.specs.Parts.{condition_asks, projection_asks}
use Rattle.request_parts.specs.Trees.{StatesCondition, StatesPaths}
use Rattle.api_request.specs.Items.{shows_old, asks_capacity}

-- ---- one action

-- the member of an element that is there, with what it holds
pub data Action : Type 0 where
  APut AnUpdate ADelete ACheck : Data → Action

abbrev pub put_or : Option Data → Action → Action
put_or (Some p) other = APut p
put_or None other = other

abbrev pub update_or : Option Data → Action → Action
update_or (Some u) other = AnUpdate u
update_or None other = other

abbrev pub delete_or : Option Data → Action → Action
delete_or (Some p) other = ADelete p
delete_or None other = other

abbrev pub action_in : Data → Action
action_in d =
    put_or (object_at name.Put d) (update_or (object_at name.Update d)
    (delete_or (object_at name.Delete d) (ACheck (unwrap_or (object_at name.ConditionCheck d) d))))

abbrev pub body_of : Action → Data
body_of (APut d) = d
body_of (AnUpdate d) = d
body_of (ADelete d) = d
body_of (ACheck d) = d

-- an update has to be stated
abbrev pub change_asks : Data → Asks
change_asks d = record {
  known = known d;
  expressions = writing (Some (text_at name.UpdateExpression d)) (stated_text name.ConditionExpression d);
}

abbrev pub asks_of : Action → Asks
asks_of (APut d) = condition_asks d
asks_of (AnUpdate d) = change_asks d
asks_of (ADelete d) = condition_asks d
asks_of (ACheck d) = condition_asks d

-- what becomes of the item
abbrev pub IsChangeOf : Action → ActionChange → Type 0
IsChangeOf (APut d) (change.Put new) = new ≡ item_at name.Item d
IsChangeOf (AnUpdate d) (change.Update key update) =
    (key ≡ item_at name.Key d) × UpdateOf (known d) name.UpdateExpression (text_at name.UpdateExpression d) (Ok (update_tree update))
IsChangeOf (ADelete d) (change.Delete key) = key ≡ item_at name.Key d
IsChangeOf (ACheck d) (change.Check key) = key ≡ item_at name.Key d
IsChangeOf _ _ = ⊥

pub record StatesAction (a : Action) (r : TransactAction) : Type 0 where
  pub table : r.table ≡ text_at name.TableName (body_of a)
  pub becomes : IsChangeOf a r.change
  pub condition : StatesCondition (known (body_of a)) name.ConditionExpression (stated_text name.ConditionExpression (body_of a)) r.condition
  pub values : map tree_of r.values ≡ (known (body_of a)).values
  pub show_old : r.show_old ≡ shows_old (body_of a)

abbrev pub action_asks : Data → Asks
action_asks d = asks_of (action_in d)

abbrev pub StatesActionIn : Data → TransactAction → Type 0
StatesActionIn d r = StatesAction (action_in d) r

-- ---- all actions

-- the size of an action: of the item that is put, else of the key and the values
abbrev pub size_of : Action → ℕ
size_of (APut d) = item_size (item_at name.Item d)
size_of (AnUpdate d) = item_size (item_at name.Key d) + sum_by size (known d).values
size_of (ADelete d) = item_size (item_at name.Key d) + sum_by size (known d).values
size_of (ACheck d) = item_size (item_at name.Key d) + sum_by size (known d).values

abbrev pub total_size : Items → ℕ
total_size no_items = 0
total_size (item d ds) = size_of (action_in d) + total_size ds

-- the most bytes of all actions together
abbrev pub most_bytes : ℕ
most_bytes = 4194304

abbrev pub value_size : Value → ℕ
value_size v = size (tree_of v)

-- the size of a change, beside values of this size
abbrev pub size_beside : ℕ → ActionChange → ℕ
size_beside n (change.Put new) = item_size new
size_beside n (change.Update key update) = item_size key + n
size_beside n (change.Delete key) = item_size key + n
size_beside n (change.Check key) = item_size key + n

-- the size of an action that was read
abbrev pub read_size : TransactAction → ℕ
read_size r = size_beside (sum_by value_size r.values) r.change

-- what an action uses of its table's capacity
abbrev pub used_by : TransactAction → Consumed
used_by r = record { table = r.table; halves = write_halves Transact (counted (read_size r)) }

-- what all actions use, of each table in the order of the names, where that is told
abbrev pub used_if : Bool → List TransactAction → Option (List Consumed)
used_if asked actions = if asked then Some (by_table (map used_by actions)) else None

pub record StatesTransactWrite (d : Data) (r : TransactWrite) : Type 0 where
  pub room : total_size (list_at name.TransactItems d) ≤ most_bytes
  pub actions : AreParts action_asks StatesActionIn (list_at name.TransactItems d) (Ok r.actions)
  pub token : r.token ≡ stated_text name.ClientRequestToken d
  pub consumed : r.consumed ≡ used_if (asks_capacity d) r.actions

-- the refusal of actions that are too large together
abbrev pub too_large : Refusal
too_large = refusal.Body (fault.OutOfRange name.TransactItems)

-- they are refused before any of their expressions
abbrev pub IsWriteRefused : Items → Refusal → Type 0
IsWriteRefused ds why =
    ((most_bytes < total_size ds) × (why ≡ too_large))
    ⊎ ((total_size ds ≤ most_bytes) × IsFirstRefused (each action_asks ds) why)

abbrev pub IsTransactWrite : Data → Result TransactWrite Refusal → Type 0
IsTransactWrite d (Ok r) = StatesTransactWrite d r
IsTransactWrite d (Err why) = IsWriteRefused (list_at name.TransactItems d) why

-- ---- reads

-- a read (API Reference: Get)
pub record StatesGet (d : Data) (r : TransactRead) : Type 0 where
  pub table : r.table ≡ text_at name.TableName d
  pub key : r.key ≡ item_at name.Key d
  pub projection : StatesPaths (known_names d) (stated_text name.ProjectionExpression d) r.projection

-- the read that an element states
abbrev pub get_in : Data → Data
get_in d = unwrap_or (object_at name.Get d) d

abbrev pub StatesRead : Data → TransactRead → Type 0
StatesRead d r = StatesGet (get_in d) r

abbrev pub read_asks : Data → Asks
read_asks d = projection_asks (get_in d)

abbrev pub IsTransactGet : Data → Result TransactGet Refusal → Type 0
IsTransactGet d (Ok r) = AreParts read_asks StatesRead (list_at name.TransactItems d) (Ok r.reads) × (r.capacity ≡ asks_capacity d)
IsTransactGet d (Err why) = IsFirstRefused (each read_asks (list_at name.TransactItems d)) why

-- ---- what the code hands on

abbrev pub of_code : code.Action → Action
of_code (shown.Put json) = APut (view json.now)
of_code (shown.Update json) = AnUpdate (view json.now)
of_code (shown.Delete json) = ADelete (view json.now)
of_code (shown.Check json) = ACheck (view json.now)

-- the actions of a transaction, or the first refusal of them
abbrev pub AreActions : Items → Result (List TransactAction) Refusal → Type 0
AreActions ds (Ok rs) = (total_size ds ≤ most_bytes) × AreParts action_asks StatesActionIn ds (Ok rs)
AreActions ds (Err why) = IsWriteRefused ds why

-- actions that were read stay where they are not too large together
abbrev pub AreFitting : List TransactAction → Result (List TransactAction) Refusal → Type 0
AreFitting all (Ok rs) = (rs ≡ all) × (sum_by read_size all ≤ most_bytes)
AreFitting all (Err why) = (why ≡ too_large) × (most_bytes < sum_by read_size all)
