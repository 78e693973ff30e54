-- What a message asks: the operation that its target names, and the request that its body states.
use Rattle.std.specs.Prelude.{◌≡◌, ℕ, List, Option, Some, None, Result, Ok, Err, IsUtf8}
use Rattle.serde_json.specs.Data.{Data}
use Rattle.serde_json.specs.Read.{read as read_text}
use Rattle.api_form.specs.declared.fault.Fault.{Fault}
use Rattle.api_form.specs.declared.fault.Fault.TheVariants as fault
use Rattle.api_form.specs.Faults.{body_faults, first}
use Rattle.table_request.specs.declared.request.Request.{Request}
use Rattle.table_request.specs.declared.request.Request.TheVariants as request
use Rattle.request_parts.specs.declared.refusal.Refusal.{Refusal}
use Rattle.request_parts.specs.declared.refusal.Refusal.TheVariants as refusal
use Rattle.request_parts.specs.declared.legacy.LegacyKind.TheVariants as kind
use Rattle.api_request.specs.declared.operation.Operation.{Operation}
use Rattle.api_request.specs.declared.operation.Operation.TheVariants as operation
use Rattle.api_request.specs.Operations.{form_of, IsNamed}
use Rattle.api_request.specs.Catalog.{IsDeleteTable, IsDescribeTable, IsListTables, IsUpdateTimeToLive, IsDescribeTimeToLive}
use Rattle.api_request.specs.Schemas.{IsCreateTable}
use Rattle.api_request.specs.Tables.{IsUpdateTable}
use Rattle.api_request.specs.Items.{IsPutItem, IsGetItem, IsUpdateItem, IsDeleteItem}
use Rattle.api_request.specs.Pages.{IsScan}
use Rattle.api_request.specs.Legacy.{WithLegacy, in_put, in_get, in_update, in_delete, in_scan, IsAnyQuery}
use Rattle.api_request.specs.Batches.{IsBatchGet, IsBatchWrite}
use Rattle.api_request.specs.Transactions.{IsTransactWrite, IsTransactGet}

-- a request of one operation, or why it is refused
abbrev pub IsOne : {T : Type 0} → (T → Request) → (Result T Refusal → Type 0) → Result Request Refusal → Type 0
IsOne {T = T} request_of States (Ok q) = (r : T) × (q ≡ request_of r) × States (Ok r)
IsOne request_of States (Err why) = States (Err why)

-- what is never refused
abbrev pub Always : {T : Type 0} → (T → Type 0) → Result T Refusal → Type 0
Always States (Ok r) = States r
Always States (Err why) = ⊥

-- the request that a body without fault states, or why it is refused
abbrev pub IsStated : Operation → Data → Result Request Refusal → Type 0
IsStated operation.PutItem d = IsOne request.PutItem (WithLegacy kind.Write in_put IsPutItem d)
IsStated operation.GetItem d = IsOne request.GetItem (WithLegacy kind.Read in_get IsGetItem d)
IsStated operation.UpdateItem d = IsOne request.UpdateItem (WithLegacy kind.Update in_update IsUpdateItem d)
IsStated operation.DeleteItem d = IsOne request.DeleteItem (WithLegacy kind.Write in_delete IsDeleteItem d)
IsStated operation.Query d = IsOne request.Query (IsAnyQuery d)
IsStated operation.Scan d = IsOne request.Scan (WithLegacy kind.Scan in_scan IsScan d)
IsStated operation.BatchGetItem d = IsOne request.BatchGet (IsBatchGet d)
IsStated operation.BatchWriteItem d = IsOne request.BatchWrite (Always (IsBatchWrite d))
IsStated operation.TransactWriteItems d = IsOne request.TransactWrite (IsTransactWrite d)
IsStated operation.TransactGetItems d = IsOne request.TransactGet (IsTransactGet d)
IsStated operation.CreateTable d = IsOne request.CreateTable (IsCreateTable d)
IsStated operation.DeleteTable d = IsOne request.DeleteTable (Always (IsDeleteTable d))
IsStated operation.UpdateTable d = IsOne request.UpdateTable (IsUpdateTable d)
IsStated operation.DescribeTable d = IsOne request.DescribeTable (Always (IsDescribeTable d))
IsStated operation.ListTables d = IsOne request.ListTables (Always (IsListTables d))
IsStated operation.UpdateTimeToLive d = IsOne request.UpdateTimeToLive (Always (IsUpdateTimeToLive d))
IsStated operation.DescribeTimeToLive d = IsOne request.DescribeTimeToLive (Always (IsDescribeTimeToLive d))

-- a fault of kinds says that the body is not of the shape of a request
abbrev pub refusal_of : Fault → Refusal
refusal_of fault.Kind = refusal.Serialization
refusal_of f = refusal.Body f

-- the first fault of the body's form is told before anything else
abbrev pub IsJudged : Option Fault → (Result Request Refusal → Type 0) → Result Request Refusal → Type 0
IsJudged None States r = States r
IsJudged (Some f) States (Ok r) = ⊥
IsJudged (Some f) States (Err why) = why ≡ refusal_of f

-- the request of JSON
abbrev pub IsOfData : Operation → Data → Result Request Refusal → Type 0
IsOfData o d = IsJudged (first (body_faults (form_of o) d)) (IsStated o d)

-- the JSON that bytes are, where they are any
abbrev pub IsJson : List ℕ → Option Data → Type 0
IsJson body (Some d) = IsUtf8 body × (read_text body ≡ Some d)
IsJson body None = IsUtf8 body → read_text body ≡ None

-- the request of what the bytes are as JSON
abbrev pub IsOfJson : Operation → Option Data → Result Request Refusal → Type 0
IsOfJson o (Some d) r = IsOfData o d r
IsOfJson o None (Ok r) = ⊥
IsOfJson o None (Err why) = why ≡ refusal.Serialization

-- the request of a body
abbrev pub IsOfBody : Operation → List ℕ → Result Request Refusal → Type 0
IsOfBody o body r = (d : Option Data) × IsJson body d × IsOfJson o d r

-- the request of the operation that is named
abbrev pub IsOf : Option Operation → List ℕ → Result Request Refusal → Type 0
IsOf (Some o) body r = IsOfBody o body r
IsOf None body (Ok r) = ⊥
IsOf None body (Err why) = why ≡ refusal.UnknownOperation

-- the request of a message, by the operation that it names
abbrev pub IsRequest : Option (List ℕ) → List ℕ → Result Request Refusal → Type 0
IsRequest target body r = (o : Option Operation) × IsNamed target o × IsOf o body r
