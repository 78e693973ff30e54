-- The body of every reply (API Reference: each operation's response elements).
use Rattle.std.specs.Prelude.{ℕ, List, ◌++◌, codes, Option, None, Some, option_map}
use Rattle.json.specs.Json.{Json}
use Rattle.json.specs.Print.{print}
use Rattle.json.specs.Tree.{json_tokens}
use Rattle.serde_json.specs.Data.{Data, no_members, member, object, string}
use Rattle.serde_json.specs.Written.{compact_text, outline}
use Rattle.attr_value.specs.Tree.{Attributes}
use Rattle.table_request.specs.declared.batches.TableKeys.{TableKeys}
use Rattle.table_request.specs.declared.batches.TableWrites.{TableWrites}
use Rattle.table_model.specs.declared.refusal.Reason.{Reason}
use Rattle.table_model.specs.declared.refusal.Reason.TheVariants as reason
use Rattle.table_model.specs.declared.refusal.Refusal.{Refusal}
use Rattle.table_model.specs.declared.refusal.Refusal.TheVariants as refusal
use Rattle.table_model.specs.declared.reply.Page.{Page}
use Rattle.table_model.specs.declared.reply.Reply.{Reply}
use Rattle.table_model.specs.declared.reply.Reply.TheVariants as reply
use Rattle.table_model.specs.declared.reply.FoundItems.{FoundItems}
use Rattle.table_model.specs.declared.reply.TableNames.{TableNames}
use Rattle.request_parts.specs.declared.refusal.Refusal.{Refusal as EdgeRefusal}
use Rattle.api_reply.specs.declared.kind.ErrorKind.TheVariants as kind
use Rattle.api_reply.specs.Batches.{item, items, unread, unwritten}
use Rattle.api_reply.specs.Capacity.{capacity, capacities, with_consumed}
use Rattle.api_reply.specs.Descriptions.{description, specification, time_to_live}
use Rattle.api_reply.specs.Edge.{edge_kind, edge_message}
use Rattle.api_reply.specs.Errors.{error, typed}
use Rattle.api_reply.specs.Json.{whole, optional, list_of, object_of}
use Rattle.api_reply.specs.Kinds.{status_of}
use Rattle.api_reply.specs.Messages.{code_of, eval_fault, kind_of, message_of}

-- ---- refusals

-- what people are told of a part of a transaction that was not accepted
abbrev pub reason_message : Reason → Option (List ℕ)
reason_message reason.None = None
reason_message (reason.ConditionFalse old) = Some (codes "The conditional request failed")
reason_message (reason.Held number) = Some (codes "Transaction is ongoing for the item")
reason_message (reason.Late stamp) = Some (codes "A later change of the item is there")
reason_message (reason.Moved first second) = Some (codes "The item changed during the read")
reason_message (reason.Invalid fault) = Some (codes "Update is not valid: " ++ eval_fault fault)

-- the item that is shown beside it
abbrev pub reason_item : Reason → Option Attributes
reason_item (reason.ConditionFalse old) = old
reason_item other = None

abbrev pub reason_data : Reason → Data
reason_data r =
    object
    (member (codes "Code") (string (code_of r))
    (optional (codes "Item") (option_map item (reason_item r))
    (optional (codes "Message") (option_map string (reason_message r)) no_members)))

-- a cancelled transaction, with what became of each of its parts
abbrev pub cancelled : List Reason → List ℕ → Data
cancelled reasons message =
    object
    (member (codes "CancellationReasons") (list_of reason_data reasons)
    (member (codes "Message") (string message) (typed kind.TransactionCanceled no_members)))

-- a condition that was false, with the item of which it was where that is shown
abbrev pub failed : Option Attributes → List ℕ → Data
failed old message =
    object
    (optional (codes "Item") (option_map item old)
    (typed kind.ConditionalCheckFailed (member (codes "message") (string message) no_members)))

abbrev pub refusal_data : Refusal → Data
refusal_data (refusal.ConditionFailed old) = failed old (message_of (refusal.ConditionFailed old))
refusal_data (refusal.Cancelled reasons) = cancelled reasons (message_of (refusal.Cancelled reasons))
refusal_data why = error (kind_of why) (message_of why)

-- ---- what was done

-- an object that has the item under this name, where there is one
abbrev pub shown : List ℕ → Option Attributes → Data
shown name attributes = object (optional name (option_map item attributes) no_members)

abbrev pub tables : TableNames → Data
tables t =
    object
    (optional (codes "LastEvaluatedTableName") (option_map string t.last)
    (member (codes "TableNames") (list_of string t.names) no_members))

abbrev pub batch_read : List FoundItems → List TableKeys → Data
batch_read found rest =
    object
    (member (codes "Responses") (object_of (λ t. t.table) items found)
    (member (codes "UnprocessedKeys") (object_of (λ t. t.table) unread rest) no_members))

abbrev pub batch_written : List TableWrites → Data
batch_written rest = object (member (codes "UnprocessedItems") (object_of (λ t. t.table) unwritten rest) no_members)

abbrev pub page : Page → Data
page p =
    object
    (member (codes "Count") (whole p.count)
    (optional (codes "Items") (option_map (list_of item) p.items)
    (optional (codes "LastEvaluatedKey") (option_map item p.last)
    (member (codes "ScannedCount") (whole p.scanned) no_members))))

abbrev pub transact_read : List (Option Attributes) → Data
transact_read found = object (member (codes "Responses") (list_of (shown (codes "Item")) found) no_members)

-- a reply, but for what was consumed of the tables' capacity
abbrev pub data_of : Reply → Data
data_of (reply.Described schema) = object (member (codes "TableDescription") (description schema) no_members)
data_of (reply.Table schema) = object (member (codes "Table") (description schema) no_members)
data_of (reply.Tables names) = tables names
data_of (reply.TimeToLiveSet name enabled) = object (member (codes "TimeToLiveSpecification") (specification name enabled) no_members)
data_of (reply.TimeToLive name) = object (member (codes "TimeToLiveDescription") (time_to_live name) no_members)
data_of (reply.Written attributes consumed) = shown (codes "Attributes") attributes
data_of (reply.Read attributes consumed) = shown (codes "Item") attributes
data_of (reply.BatchRead found rest consumed) = batch_read found rest
data_of (reply.BatchWritten rest consumed) = batch_written rest
data_of (reply.Page p consumed) = page p
data_of (reply.TransactWritten consumed) = object no_members
data_of (reply.TransactRead found consumed) = transact_read found
data_of (reply.Refused why) = refusal_data why

-- ---- bodies and statuses

-- what was consumed of the tables' capacity, where that is told
abbrev pub consumption : Reply → Option Json
consumption (reply.Written attributes consumed) = option_map capacity consumed
consumption (reply.Read attributes consumed) = option_map capacity consumed
consumption (reply.BatchRead found rest consumed) = option_map capacities consumed
consumption (reply.BatchWritten rest consumed) = option_map capacities consumed
consumption (reply.Page p consumed) = option_map capacity consumed
consumption (reply.TransactWritten consumed) = option_map capacities consumed
consumption (reply.TransactRead found consumed) = option_map capacities consumed
consumption other = None

-- a reply whole
abbrev pub told : Reply → Json
told r = with_consumed (consumption r) (outline (data_of r))

-- the body of a reply: compact JSON
abbrev pub body_of : Reply → List ℕ
body_of r = print (json_tokens (told r))

-- the status of a reply
abbrev pub reply_status : Reply → ℕ
reply_status (reply.Refused why) = status_of (kind_of why)
reply_status other = 200

-- the body of the refusal of a message that is no request
abbrev pub edge_body : EdgeRefusal → List ℕ
edge_body why = compact_text (error (edge_kind why) (edge_message why))

-- the body for want of memory
abbrev pub memory_body : List ℕ
memory_body = compact_text (error kind.InternalServer (codes "Internal server error"))

-- the body for a spent budget
abbrev pub budget_body : List ℕ
budget_body = compact_text (error kind.InternalServer (codes "request budget spent"))
