-- Worked examples: what the definitions say of small requests, one after the other.
use Rattle.std.specs.Prelude.{◌≡◌, ℕ, pos, Bool, List, [], ◌∷◌, replicate, Option, None, Some, codes, true, false, refl}
use Rattle.attr_value.specs.Tree.{Tree, Attributes, no_attributes, attribute, text, number}
use Rattle.base_types.specs.declared.path.Step.TheVariants as step
use Rattle.expr_words.specs.declared.tree.Condition.{Condition}
use Rattle.expr_words.specs.declared.tree.Condition.TheVariants as condition
use Rattle.item_keys.specs.declared.fault.KeyFault.TheVariants as key_fault
use Rattle.item_keys.specs.declared.value.KeyValue.TheVariants.{S}
use Rattle.row_keys.specs.Keys.{row_key}
use Rattle.table_schema.specs.declared.definition.KeyKind.TheVariants as kind
use Rattle.table_schema.specs.declared.schema.Schema.{Schema}
use Rattle.table_request.specs.declared.consumed.Consumed.{Consumed}
use Rattle.table_request.specs.Usage.{by_table}
use Rattle.table_request.specs.declared.items.ReturnValues.TheVariants as show
use Rattle.table_request.specs.declared.items.PutItem.{PutItem}
use Rattle.table_request.specs.declared.items.GetItem.{GetItem}
use Rattle.table_request.specs.declared.items.DeleteItem.{DeleteItem}
use Rattle.table_request.specs.declared.batches.WriteRequest.TheVariants as write
use Rattle.table_request.specs.declared.batches.BatchWrite.{BatchWrite}
use Rattle.table_request.specs.declared.batches.BatchGet.{BatchGet}
use Rattle.table_request.specs.declared.transactions.ActionChange.TheVariants as change
use Rattle.table_request.specs.declared.transactions.TransactAction.{TransactAction}
use Rattle.table_request.specs.declared.transactions.TransactWrite.{TransactWrite}
use Rattle.table_request.specs.declared.time_to_live.UpdateTimeToLive.{UpdateTimeToLive}
use Rattle.client_tokens.specs.declared.kept.Kept.{Kept}
use Rattle.table_model.specs.declared.action.NumberedAction.{NumberedAction}
use Rattle.table_model.specs.declared.reply.Reply.{Reply}
use Rattle.table_model.specs.declared.reply.Reply.TheVariants as answer
use Rattle.table_model.specs.declared.refusal.Reason.TheVariants as reason
use Rattle.table_model.specs.declared.refusal.Refusal.{Refusal}
use Rattle.table_model.specs.declared.refusal.Refusal.TheVariants as refusal
use Rattle.table_model.specs.declared.refusal.Invalid.TheVariants as invalid
use Rattle.table_model.specs.declared.refusal.TtlFault.{TtlFault}
use Rattle.table_model.specs.declared.refusal.TtlFault.TheVariants.{AlreadyEnabled, AlreadyDisabled, OtherAttribute}
use Rattle.row_keys.specs.Expiry.{of_seconds}
use Rattle.table_model.specs.Database.{Database, Effect, empty_database, with_row}
use Rattle.table_model.specs.Consumed.{used_of, halves_written}
use Rattle.table_model.specs.Writes.{put_item, delete_item}
use Rattle.table_model.specs.Reads.{get_item}
use Rattle.table_model.specs.Batches.{batch_write, batch_get}
use Rattle.table_model.specs.Transactions.{transact_write, repeated, kept_at, numbered_all}
use Rattle.table_model.specs.Catalog.{create_table, delete_table, list_tables, update_time_to_live, describe_time_to_live}
use Rattle.table_model.specs.Expired.{swept}

-- ---- a table `name` with the key `id`, and its items

abbrev pub schema_of : List ℕ → Schema
schema_of name = record {
  name = name;
  definitions = record { name = codes "id"; kind = kind.S } ∷ [];
  keys = record { partition = codes "id"; sort = None };
  locals = [];
  globals = [];
  on_demand = true;
  read_units = 0;
  write_units = 0;
  created = 0;
  ttl = None;
  stream = None;
}

abbrev pub tab : List ℕ
tab = codes "Tab"

abbrev pub key : List ℕ → Attributes
key id = attribute (codes "id") (text id) no_attributes

abbrev pub item : List ℕ → List ℕ → Attributes
item id v = attribute (codes "id") (text id) (attribute (codes "v") (text v) no_attributes)

-- ---- requests

-- the item has no attribute `id`: it is not there
abbrev pub is_absent : Condition
is_absent = condition.Absent (record { steps = step.Name (codes "id") ∷ [] })

abbrev pub put : Attributes → Option Condition → PutItem
put new condition = record {
  table = tab;
  item = new;
  condition = condition;
  values = [];
  return_values = show.AllOld;
  show_old = false;
  capacity = false;
}

abbrev pub get : List ℕ → GetItem
get id = record { table = tab; key = key id; projection = None; consistent = true; capacity = false }

abbrev pub delete : List ℕ → DeleteItem
delete id = record {
  table = tab;
  key = key id;
  condition = None;
  values = [];
  return_values = show.AllOld;
  show_old = false;
  capacity = false;
}

abbrev pub write_two : BatchWrite
write_two = record {
  tables = record { table = tab; writes = write.Put (item (codes "a") (codes "1")) ∷ write.Put (item (codes "b") (codes "2")) ∷ [] } ∷ [];
  capacity = false;
  ascending = refl;
}

abbrev pub read_three : BatchGet
read_three = record {
  tables = record {
    table = tab;
    keys = key (codes "b") ∷ key (codes "a") ∷ key (codes "zz") ∷ [];
    projection = None;
    consistent = None;
    expression = None;
    names = None;
    attributes = None;
  } ∷ [];
  capacity = false;
}

abbrev pub put_action : List ℕ → List ℕ → Option Condition → TransactAction
put_action id v condition = record {
  table = tab;
  change = change.Put (item id v);
  condition = condition;
  values = [];
  show_old = false;
}

abbrev pub transact : List TransactAction → Option (List ℕ) → TransactWrite
transact actions token = record { actions = actions; token = token; consumed = None }

-- what is used of the table
abbrev pub used : ℕ → Consumed
used halves = used_of tab halves

-- ---- databases

abbrev pub after : Effect → Database
after effect = effect.0

abbrev pub said : Effect → Reply
said effect = effect.1

-- with the table alone; and with the items a and b
abbrev pub made : Database
made = after (create_table empty_database (record { schema = schema_of tab }) 0)

abbrev pub filled : Database
filled = after (batch_write made write_two)

abbrev pub three_puts : List TransactAction
three_puts =
    put_action (codes "a") (codes "9") None ∷ put_action (codes "b") (codes "9") None ∷ put_action (codes "c") (codes "9") None ∷ []

-- three puts, of which the second may only make an item
abbrev pub cancelled_three : Effect
cancelled_three =
    transact_write filled
    (transact
    (put_action (codes "a") (codes "9") None ∷ put_action (codes "b") (codes "9") (Some is_absent) ∷ put_action (codes "c") (codes "9") None ∷ [])
    None)
    0

abbrev pub one_put : List ℕ → TransactWrite
one_put v = transact (put_action (codes "a") v None ∷ []) (Some (codes "t"))

-- what a token is kept with that one put was sent with
abbrev pub kept_put : Option (Kept (List NumberedAction))
kept_put = Some (kept_at 0 (numbered_all made (put_action (codes "a") (codes "1") None ∷ [])))

-- items expire by `exp`, and there are none; and one whose `exp` is this
abbrev pub time_to_live : Bool → List ℕ → UpdateTimeToLive
time_to_live enabled name = record { table = tab; name = name; enabled = enabled }

abbrev pub expiring : Database
expiring = after (update_time_to_live made (time_to_live true (codes "exp")))

abbrev pub with_expiry : Tree → Database
with_expiry when =
    with_row expiring tab (record { number = 1; schema = record (schema_of tab) { ttl = Some (codes "exp") }; rows = [] })
    (row_key (record { partition = S (codes "a"); sort = None }))
    (Some (attribute (codes "exp") when (attribute (codes "id") (text (codes "a")) no_attributes)))

abbrev pub number_of : ℕ → Tree
number_of seconds = number (pos (of_seconds seconds))

abbrev pub ttl_refused : TtlFault → Refusal
ttl_refused fault = refusal.Invalid (invalid.TimeToLive fault)

-- ---- the examples

-- two tables, the later name first
abbrev pub two_tables : Database
two_tables =
    after (create_table
    (after (create_table empty_database (record { schema = schema_of (codes "bbb") }) 0))
    (record { schema = schema_of (codes "aaa") }) 0)

pub record Worked : Type 0 where
  -- a table is made once, and has its moment
  pub created :
      said (create_table empty_database (record { schema = schema_of tab }) 5000000)
      ≡ answer.Described (record (schema_of tab) { created = 5000000 })
  pub exists : said (create_table made (record { schema = schema_of tab }) 0) ≡ answer.Refused (refusal.TableExists tab)
  -- what was put is read, and nothing else
  pub read :
      said (get_item (after (put_item made (put (item (codes "a") (codes "1")) None))) (get (codes "a")))
      ≡ answer.Read (Some (item (codes "a") (codes "1"))) None
  pub absent : said (get_item filled (get (codes "c"))) ≡ answer.Read None None
  pub no_table : said (get_item empty_database (get (codes "a"))) ≡ answer.Refused (refusal.NoTable tab)
  pub no_key : said (put_item made (put no_attributes None)) ≡ answer.Refused (refusal.Invalid (invalid.Key key_fault.Missing))
  pub empty_key : said (get_item made (get [])) ≡ answer.Refused (refusal.Invalid (invalid.Key key_fault.Empty))
  pub extra :
      said (delete_item made (record (delete (codes "a")) { key = item (codes "a") (codes "1") }))
      ≡ answer.Refused (refusal.Invalid (invalid.Key key_fault.Extra))
  -- a write shows the old item, and a false condition changes nothing
  pub replaced : said (put_item filled (put (item (codes "a") (codes "9")) None)) ≡ answer.Written (Some (item (codes "a") (codes "1"))) None
  pub refused : put_item filled (put (item (codes "a") (codes "9")) (Some is_absent)) ≡ (filled, answer.Refused (refusal.ConditionFailed None))
  -- where that is asked, a false condition shows the item
  pub lost :
      said (put_item filled (record (put (item (codes "a") (codes "9")) (Some is_absent)) { show_old = true }))
      ≡ answer.Refused (refusal.ConditionFailed (Some (item (codes "a") (codes "1"))))
  pub deleted : said (delete_item filled (delete (codes "b"))) ≡ answer.Written (Some (item (codes "b") (codes "2"))) None
  pub gone : said (get_item (after (delete_item filled (delete (codes "b")))) (get (codes "b"))) ≡ answer.Read None None
  -- a batch reads in the order of its keys
  pub batch :
      said (batch_get filled read_three)
      ≡ answer.BatchRead (record { table = tab; items = item (codes "b") (codes "2") ∷ item (codes "a") (codes "1") ∷ [] } ∷ []) [] None
  -- a transaction is made whole, or not at all with a reason for each action
  pub cancelled : said cancelled_three ≡ answer.Refused (refusal.Cancelled (reason.None ∷ reason.ConditionFalse None ∷ reason.None ∷ []))
  pub unchanged : (after cancelled_three).tables ≡ filled.tables
  pub whole :
      said (get_item (after (transact_write filled (transact three_puts None) 0)) (get (codes "c")))
      ≡ answer.Read (Some (item (codes "c") (codes "9"))) None
  pub twice :
      said (transact_write filled (transact (put_action (codes "a") (codes "8") None ∷ put_action (codes "a") (codes "9") None ∷ []) None) 0)
      ≡ answer.Refused (refusal.Invalid invalid.Twice)
  -- a token that lives stands for its actions
  pub same_actions : repeated made (one_put (codes "1")) 0 kept_put ≡ (made, answer.TransactWritten None)
  pub other_actions : repeated made (one_put (codes "2")) 0 kept_put ≡ (made, answer.Refused refusal.Mismatch)
  -- names are listed in order, with the last where more follow
  pub listed :
      said (list_tables two_tables (record { after = None; limit = 1 }))
      ≡ answer.Tables (record { names = codes "aaa" ∷ []; last = Some (codes "aaa") })
  -- a time to live is enabled once, and disabled for its own attribute
  pub enabled : said (update_time_to_live made (time_to_live true (codes "exp"))) ≡ answer.TimeToLiveSet (codes "exp") true
  pub told : said (describe_time_to_live expiring (record { table = tab })) ≡ answer.TimeToLive (Some (codes "exp"))
  pub again : said (update_time_to_live expiring (time_to_live true (codes "exp"))) ≡ answer.Refused (ttl_refused AlreadyEnabled)
  pub not_enabled : said (update_time_to_live made (time_to_live false (codes "exp"))) ≡ answer.Refused (ttl_refused AlreadyDisabled)
  pub another : said (update_time_to_live expiring (time_to_live false (codes "end"))) ≡ answer.Refused (ttl_refused OtherAttribute)
  -- an item that expires at 150 is there at that second, gone at the next, and would stay five years later; a text says nothing
  pub lasting : swept (with_expiry (number_of 150)) 150999999 ≡ with_expiry (number_of 150)
  pub expired : (swept (with_expiry (number_of 150)) 151000000).tables ≡ expiring.tables
  pub forgotten : swept (with_expiry (number_of 150)) 157680151000000 ≡ with_expiry (number_of 150)
  pub textual : swept (with_expiry (text (codes "150"))) 151000000 ≡ with_expiry (text (codes "150"))
  -- where it is asked, what was used is told: reads of five bytes and of none, and a write
  pub used_by_read :
      said (get_item filled (record (get (codes "a")) { capacity = true }))
      ≡ answer.Read (Some (item (codes "a") (codes "1"))) (Some (used 2))
  pub used_for_none : said (get_item filled (record (get (codes "c")) { consistent = false; capacity = true })) ≡ answer.Read None (Some (used 1))
  pub used_by_write :
      said (put_item filled (record (put (item (codes "a") (codes "9")) None) { capacity = true }))
      ≡ answer.Written (Some (item (codes "a") (codes "1"))) (Some (used 2))
  -- a refusal tells nothing
  pub refused_untold :
      said (put_item filled (record (put (item (codes "a") (codes "9")) (Some is_absent)) { capacity = true }))
      ≡ answer.Refused (refusal.ConditionFailed None)
  -- a write counts by the greater item
  pub greater_before : halves_written (Some (item (codes "a") (replicate 1021 120))) (Some (item (codes "a") (codes "1"))) ≡ 4
  pub greater_after : halves_written None (Some (item (codes "a") (replicate 1021 120))) ≡ 4
  pub one_piece : halves_written (Some (item (codes "a") (replicate 1020 120))) None ≡ 2
  -- each key and each write counts by itself
  pub used_by_keys :
      said (batch_get filled (record read_three { capacity = true }))
      ≡ answer.BatchRead (record { table = tab; items = item (codes "b") (codes "2") ∷ item (codes "a") (codes "1") ∷ [] } ∷ []) [] (Some (used 3 ∷ []))
  pub used_by_writes : said (batch_write made (record write_two { capacity = true })) ≡ answer.BatchWritten [] (Some (used 4 ∷ []))
  -- tables come in the order of their names
  pub added_up :
      by_table (used_of (codes "b") 8 ∷ used_of (codes "a") 4 ∷ used_of (codes "b") 4 ∷ [])
      ≡ used_of (codes "a") 4 ∷ used_of (codes "b") 12 ∷ []
  -- what a transaction uses is told as it came, also where it was made before
  pub used_by_transaction :
      said (transact_write filled (record (transact three_puts None) { consumed = Some (used 12 ∷ []) }) 0) ≡ answer.TransactWritten (Some (used 12 ∷ []))
  pub used_by_repeat :
      repeated made (record (one_put (codes "1")) { consumed = Some (used 4 ∷ []) }) 0 kept_put ≡ (made, answer.TransactWritten (Some (used 4 ∷ [])))
  -- a table that is dropped takes its items along
  pub dropped :
      said (get_item (after (create_table (after (delete_table filled (record { table = tab }))) (record { schema = schema_of tab }) 0)) (get (codes "a")))
      ≡ answer.Read None None
