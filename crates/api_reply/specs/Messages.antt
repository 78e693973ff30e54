-- What people are told of a refusal that hangs on the tables. The texts are this project's own.
use Rattle.std.specs.Prelude.{ℕ, List, [], ◌∷◌, ◌++◌, codes}
use Rattle.number38.specs.declared.number.NumberFault.{NumberFault}
use Rattle.number38.specs.declared.number.NumberFault.TheVariants as number
use Rattle.table_schema.specs.FaultName.{name_of as schema_fault}
use Rattle.item_keys.specs.FaultName.{name_of as key_fault}
use Rattle.key_condition.specs.FaultName.{shown as range_fault}
use Rattle.update_eval.specs.declared.fault.EvalFault.{EvalFault}
use Rattle.update_eval.specs.declared.fault.EvalFault.TheVariants as eval
use Rattle.table_model.specs.declared.refusal.Invalid.{Invalid}
use Rattle.table_model.specs.declared.refusal.Invalid.TheVariants as invalid
use Rattle.table_model.specs.declared.refusal.TtlFault.{TtlFault}
use Rattle.table_model.specs.declared.refusal.TtlFault.TheVariants as ttl
use Rattle.table_model.specs.declared.refusal.Reason.{Reason}
use Rattle.table_model.specs.declared.refusal.Reason.TheVariants as reason
use Rattle.table_model.specs.declared.refusal.Refusal.{Refusal}
use Rattle.table_model.specs.declared.refusal.Refusal.TheVariants as refusal
use Rattle.api_reply.specs.declared.kind.ErrorKind.{ErrorKind}
use Rattle.api_reply.specs.declared.kind.ErrorKind.TheVariants as kind

-- ---- parts of a transaction

abbrev pub code_of : Reason → List ℕ
code_of reason.None = codes "None"
code_of (reason.ConditionFalse old) = codes "ConditionalCheckFailed"
code_of (reason.Held number) = codes "TransactionConflict"
code_of (reason.Late stamp) = codes "TransactionConflict"
code_of (reason.Moved first second) = codes "TransactionConflict"
code_of (reason.Invalid fault) = codes "ValidationError"

-- further codes, each behind a comma and a space
abbrev pub more_codes : List Reason → List ℕ
more_codes [] = []
more_codes (r ∷ rs) = codes ", " ++ code_of r ++ more_codes rs

abbrev pub codes_of : List Reason → List ℕ
codes_of [] = []
codes_of (r ∷ rs) = code_of r ++ more_codes rs

abbrev pub number_fault : NumberFault → List ℕ
number_fault number.Grammar = codes "Number Grammar"
number_fault number.TooManyDigits = codes "Number TooManyDigits"
number_fault number.OutOfRange = codes "Number OutOfRange"

abbrev pub eval_fault : EvalFault → List ℕ
eval_fault eval.MissingOperand = codes "MissingOperand"
eval_fault eval.OperandType = codes "OperandType"
eval_fault (eval.Number fault) = number_fault fault
eval_fault eval.BadPath = codes "BadPath"
eval_fault eval.TooDeep = codes "TooDeep"
eval_fault eval.ItemTooLarge = codes "ItemTooLarge"
eval_fault eval.IndexKey = codes "IndexKey"

-- ---- whole requests

abbrev pub ttl_fault : TtlFault → List ℕ
ttl_fault ttl.AlreadyEnabled = codes "AlreadyEnabled"
ttl_fault ttl.AlreadyDisabled = codes "AlreadyDisabled"
ttl_fault ttl.OtherAttribute = codes "OtherAttribute"

abbrev pub invalid_message : Invalid → List ℕ
invalid_message (invalid.Schema fault) = codes "Table schema is not valid: " ++ schema_fault fault
invalid_message (invalid.Key fault) = codes "The provided key is not valid: " ++ key_fault fault
invalid_message (invalid.UpdateOfKey name) = codes "Update of a key attribute: " ++ name
invalid_message (invalid.KeyCondition fault) = codes "Key condition is not valid: " ++ range_fault fault
invalid_message (invalid.FilterOfKey name) = codes "Filter names a key attribute: " ++ name
invalid_message (invalid.UnknownIndex name) = codes "The table does not have the specified index: " ++ name
invalid_message invalid.ConsistentIndexRead = codes "Consistent reads are not supported on global secondary indexes"
invalid_message (invalid.NotProjected name) = codes "Attribute is not projected: " ++ name
invalid_message invalid.Select = codes "Select is not valid"
invalid_message invalid.StartKey = codes "The start key is not valid"
invalid_message invalid.Twice = codes "Two operations on one item"
invalid_message (invalid.Evaluation fault) = codes "Update is not valid: " ++ eval_fault fault
invalid_message invalid.ItemTooLarge = codes "Item size has exceeded the maximum allowed size"
invalid_message (invalid.TimeToLive fault) = codes "Time to live is not valid: " ++ ttl_fault fault

abbrev pub message_of : Refusal → List ℕ
message_of (refusal.Invalid why) = invalid_message why
message_of (refusal.NoTable name) = codes "Requested resource not found: Table: " ++ name ++ codes " not found"
message_of (refusal.NoIndex name) = codes "Requested resource not found: Index: " ++ name ++ codes " not found"
message_of (refusal.TableExists name) = codes "Table already exists: " ++ name
message_of (refusal.TableHeld name) = codes "A transaction holds an item of table: " ++ name
message_of (refusal.ConditionFailed old) = codes "The conditional request failed"
message_of (refusal.Cancelled reasons) =
    codes "Transaction cancelled, please refer cancellation reasons for specific reasons [" ++ codes_of reasons ++ codes "]"
message_of (refusal.Conflict number) = codes "Transaction is ongoing for the item"
message_of refusal.Mismatch = codes "Parameters differ from those of the earlier call with this token"
message_of refusal.TooManyTables = codes "There are 256 tables"

abbrev pub kind_of : Refusal → ErrorKind
kind_of (refusal.Invalid why) = kind.Validation
kind_of (refusal.NoTable name) = kind.ResourceNotFound
kind_of (refusal.NoIndex name) = kind.ResourceNotFound
kind_of (refusal.TableExists name) = kind.ResourceInUse
kind_of (refusal.TableHeld name) = kind.ResourceInUse
kind_of (refusal.ConditionFailed old) = kind.ConditionalCheckFailed
kind_of (refusal.Cancelled reasons) = kind.TransactionCanceled
kind_of (refusal.Conflict number) = kind.TransactionConflict
kind_of refusal.Mismatch = kind.IdempotentParameterMismatch
kind_of refusal.TooManyTables = kind.LimitExceeded
