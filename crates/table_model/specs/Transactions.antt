-- Transactions (API Reference: TransactWriteItems, TransactGetItems; Developer Guide: Amazon DynamoDB transactions).
use Rattle.std.specs.Prelude.{ℕ, List, [], ◌∷◌, map, filter_map, Bool, true, false, ◌&&◌, ◌||◌, bytes_eq, if◌then◌else◌}
use Rattle.std.specs.Prelude.{Option, None, Some, option_map, option_and_then, Result}
use Rattle.std.specs.List.{list_any, list_all}
use Rattle.std.specs.Cmp.Lexicographic.{pointwise}
use Rattle.std.specs.BTreeMap.{is_at}
use Rattle.std.specs.FinMap.{get, insert}
use Rattle.attr_value.specs.Tree.{Attributes}
use Rattle.client_tokens.specs.declared.kept.Kept.{Kept}
use Rattle.client_tokens.specs.TokenMap.{purged}
use Rattle.item_keys.specs.declared.fault.KeyFault.{KeyFault}
use Rattle.item_keys.specs.declared.key.Key.{Key}
use Rattle.row_keys.specs.declared.row_key.RowKey.{RowKey}
use Rattle.item_keys.specs.ItemKey.{key_in, key_alone}
use Rattle.table_schema.specs.declared.schema.Schema.{Schema}
use Rattle.capacity.specs.declared.halves.Mode.TheVariants.{Transact}
use Rattle.capacity.specs.Units.{read_halves}
use Rattle.table_request.specs.declared.consumed.Consumed.{Consumed}
use Rattle.table_request.specs.Usage.{by_table}
use Rattle.table_request.specs.declared.transactions.TransactWrite.{TransactWrite}
use Rattle.table_request.specs.declared.transactions.TransactAction.{TransactAction}
use Rattle.table_request.specs.declared.transactions.ActionChange.{ActionChange}
use Rattle.table_request.specs.declared.transactions.ActionChange.TheVariants.{Put, Update, Delete, Check}
use Rattle.table_request.specs.declared.transactions.TransactGet.{TransactGet}
use Rattle.table_request.specs.declared.transactions.TransactRead.{TransactRead}
use Rattle.table_model.specs.declared.action.NumberedAction.{NumberedAction}
use Rattle.table_model.specs.contracts.action.NumberedActionPartialEq.TheImpl.{ghosts}
use Rattle.table_model.specs.declared.reply.Reply.TheVariants as answer
use Rattle.table_model.specs.declared.refusal.Reason.{Reason}
use Rattle.table_model.specs.declared.refusal.Reason.TheVariants as reason
use Rattle.table_model.specs.declared.refusal.Refusal.{Refusal}
use Rattle.table_model.specs.declared.refusal.Refusal.TheVariants.{Invalid, Cancelled, Mismatch}
use Rattle.table_model.specs.declared.refusal.Invalid.TheVariants as invalid
use Rattle.row_keys.specs.Keys.{row_order}
use Rattle.row_keys.specs.Rows.{item_at}
use Rattle.table_model.specs.Outcome.{ItemOutcome, becomes, is_false, is_faulty, is_met, where_met, put_outcome, update_outcome, delete_outcome}
use Rattle.table_model.specs.Reads.{view}
use Rattle.table_model.specs.Writes.{key_update, shown_if}
use Rattle.table_model.specs.Batches.{missing, key_refusal, place_if}
use Rattle.table_model.specs.Database.{Database, Table, Effect, table_named, with_row, refused, unless, first, where_true}
use Rattle.table_model.specs.Consumed.{where_asked, bytes_of, used_of}

-- ---- the items of a transaction

-- an item of a table that is there: the table's name and number, and the key
pub record Target : Type 0 where
  pub name : List ℕ
  pub number : ℕ
  pub key : RowKey

-- two targets are one item
abbrev pub is_one : Target → Target → Bool
is_one a b = bytes_eq a.name b.name && is_at (row_order a.key) b.key

-- some item is a target twice
abbrev pub has_repeat : List Target → Bool
has_repeat [] = false
has_repeat (target ∷ targets) = list_any (is_one target) targets || has_repeat targets

-- ---- actions

abbrev pub change_key : Schema → ActionChange → Result Key KeyFault
change_key schema (Put item) = key_in schema schema.keys item
change_key schema (Update key update) = key_alone schema schema.keys key
change_key schema (Delete key) = key_alone schema schema.keys key
change_key schema (Check key) = key_alone schema schema.keys key

abbrev pub key_if : Option Table → TransactAction → Option (Result Key KeyFault)
key_if table action = option_map (λ t. change_key t.schema action.change) table

abbrev pub target_if : Option Table → TransactAction → Option Target
target_if None action = None
target_if (Some table) action =
    option_map (λ key. record { name = action.table; number = table.number; key = key })
    (place_if (change_key table.schema action.change))

abbrev pub target_of : Database → TransactAction → Option Target
target_of db action = target_if (table_named db action.table) action

abbrev pub bad_key : Database → TransactAction → Option Refusal
bad_key db action = option_and_then key_refusal (key_if (table_named db action.table) action)

abbrev pub change_key_update : Schema → ActionChange → Option Refusal
change_key_update schema (Update key update) = key_update schema.keys (Some update)
change_key_update schema change = None

abbrev pub updates_key : Database → TransactAction → Option Refusal
updates_key db action = option_and_then (λ table. change_key_update table.schema action.change) (table_named db action.table)

-- the first refusal: of a table, of a key, of an item that stands twice, of an update of a key
abbrev pub transact_refusal : Database → List TransactAction → Option Refusal
transact_refusal db actions =
    first
    (first (map (λ action. missing db action.table) actions)
    ∷ first (map (bad_key db) actions)
    ∷ where_true (has_repeat (filter_map (target_of db) actions)) (Invalid invalid.Twice)
    ∷ first (map (updates_key db) actions) ∷ [])

-- ---- what an action makes of its item

abbrev pub change_outcome : Schema → TransactAction → Option Attributes → ActionChange → ItemOutcome
change_outcome schema action old (Put item) = put_outcome schema item
change_outcome schema action old (Update key update) = update_outcome schema (Some update) action.values key old
change_outcome schema action old (Delete key) = delete_outcome
change_outcome schema action old (Check key) = becomes old

abbrev pub action_outcome : Schema → TransactAction → Option Attributes → ItemOutcome
action_outcome schema action old =
    where_met (is_met action.condition action.values old) (change_outcome schema action old action.change)

-- the outcome of an action on its item, as the tables are
abbrev pub outcome_if : Option Table → TransactAction → Option Target → ItemOutcome
outcome_if (Some table) action (Some target) = action_outcome table.schema action (item_at table.rows target.key)
outcome_if _ action _ = becomes None

abbrev pub outcome_of : Database → TransactAction → ItemOutcome
outcome_of db action = outcome_if (table_named db action.table) action (target_of db action)

-- ---- all or nothing

abbrev pub is_accepted : ItemOutcome → Bool
is_accepted (becomes new) = true
is_accepted is_false = false
is_accepted (is_faulty fault) = false

-- the item that is shown where the condition is false
abbrev pub shown_old : Database → TransactAction → Option Table → Option Target → Option Attributes
shown_old db action (Some table) (Some target) = shown_if action.show_old (item_at table.rows target.key)
shown_old db action _ _ = None

abbrev pub reason_if : Database → TransactAction → ItemOutcome → Reason
reason_if db action (becomes new) = reason.None
reason_if db action is_false =
    reason.ConditionFalse (shown_old db action (table_named db action.table) (target_of db action))
reason_if db action (is_faulty fault) = reason.Invalid fault

abbrev pub reason_of : Database → TransactAction → Reason
reason_of db action = reason_if db action (outcome_of db action)

-- one change is made
abbrev pub made_if : Database → List ℕ → Option Table → Option Target → ItemOutcome → Database
made_if db name (Some table) (Some target) (becomes new) = with_row db name table target.key new
made_if db name _ _ _ = db

-- the outcomes of all actions, which were taken before, are made
abbrev pub made_all : Database → List TransactAction → List ItemOutcome → Database
made_all db (action ∷ actions) (outcome ∷ outcomes) =
    made_all (made_if db action.table (table_named db action.table) (target_of db action) outcome) actions outcomes
made_all db _ _ = db

-- ---- tokens

-- the actions with the numbers of their tables
abbrev pub numbered : Database → TransactAction → Option NumberedAction
numbered db action = option_map (λ target. record { table = target.number; action = action }) (target_of db action)

abbrev pub numbered_all : Database → List TransactAction → List NumberedAction
numbered_all db actions = filter_map (numbered db) actions

-- the token is kept, completed at the moment; no transaction has a number here
abbrev pub kept_at : ℕ → List NumberedAction → Kept (List NumberedAction)
kept_at moment actions = record { number = 0; actions = actions; completed = Some moment }

abbrev pub with_token : Database → Option (List ℕ) → ℕ → List NumberedAction → Database
with_token db None moment actions = db
with_token db (Some token) moment actions = record db { tokens = insert db.tokens token (kept_at moment actions) }

abbrev pub kept_of : Database → Option (List ℕ) → Option (Kept (List NumberedAction))
kept_of db None = None
kept_of db (Some token) = get db.tokens token

-- the database without the tokens whose life is over
abbrev pub without_expired : Database → ℕ → Database
without_expired db moment = record db { tokens = purged db.tokens moment }

-- two actions are the same in every part: tables by their numbers, expressions by their trees, values by content
abbrev pub same_action : NumberedAction → NumberedAction → Bool
same_action = ghosts.eq

-- ---- the effects

-- all actions are accepted and made together, or none is
abbrev pub transacted : Database → TransactWrite → ℕ → Effect
transacted db r moment =
    if list_all (λ action. is_accepted (outcome_of db action)) r.actions
    then (with_token (made_all db r.actions (map (outcome_of db) r.actions)) r.token moment (numbered_all db r.actions), answer.TransactWritten r.consumed)
    else refused db (Cancelled (map (reason_of db) r.actions))

-- a token that lives changes nothing: the same actions were made before, and others are refused
abbrev pub repeated : Database → TransactWrite → ℕ → Option (Kept (List NumberedAction)) → Effect
repeated db r moment None = transacted db r moment
repeated db r moment (Some kept) =
    if pointwise same_action kept.actions (numbered_all db r.actions) then (db, answer.TransactWritten r.consumed) else refused db Mismatch

abbrev pub transact_write : Database → TransactWrite → ℕ → Effect
transact_write db r moment =
    let living = without_expired db moment in
    unless db (transact_refusal db r.actions) (repeated living r moment (kept_of living r.token))

-- ---- TransactGetItems

abbrev pub read_key : Database → TransactRead → Option (Result Key KeyFault)
read_key db read = option_map (λ table. key_alone table.schema table.schema.keys read.key) (table_named db read.table)

abbrev pub read_target_if : Option Table → TransactRead → Option Target
read_target_if None read = None
read_target_if (Some table) read =
    option_map (λ key. record { name = read.table; number = table.number; key = key })
    (place_if (key_alone table.schema table.schema.keys read.key))

abbrev pub read_target : Database → TransactRead → Option Target
read_target db read = read_target_if (table_named db read.table) read

abbrev pub read_refusal : Database → List TransactRead → Option Refusal
read_refusal db reads =
    first
    (first (map (λ read. missing db read.table) reads)
    ∷ first (map (λ read. option_and_then key_refusal (read_key db read)) reads)
    ∷ where_true (has_repeat (filter_map (read_target db) reads)) (Invalid invalid.Twice) ∷ [])

abbrev pub read_item : Option Table → Option Target → Option Attributes
read_item (Some table) (Some target) = item_at table.rows target.key
read_item _ _ = None

abbrev pub item_of_read : Database → TransactRead → Option Attributes
item_of_read db read = read_item (table_named db read.table) (read_target db read)

abbrev pub read_view : Database → TransactRead → Option Attributes
read_view db read = option_map (view read.projection) (item_of_read db read)

-- what a read uses
abbrev pub used_by_read : Database → TransactRead → Consumed
used_by_read db read = used_of read.table (read_halves Transact (bytes_of (item_of_read db read)))

abbrev pub transact_get : Database → TransactGet → Effect
transact_get db r =
    unless db (read_refusal db r.reads)
    (db, answer.TransactRead (map (read_view db) r.reads) (where_asked r.capacity (by_table (map (used_by_read db) r.reads))))
