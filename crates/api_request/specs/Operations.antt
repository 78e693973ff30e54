-- Operations: their names, the targets that name them, and the forms of their bodies (API Reference: Actions).
use Rattle.std.specs.Prelude.{◌≡◌, ⊤, ◌++◌, ℕ, List, Option, Some, None, codes}
use Rattle.api_form.specs.declared.form.Form.{Form}
use Rattle.api_form.specs.declared.form.Form.TheVariants as form
use Rattle.api_request.specs.declared.operation.Operation.{Operation}
use Rattle.api_request.specs.declared.operation.Operation.TheVariants as operation

-- the name of an operation
abbrev pub name_of : Operation → List ℕ
name_of operation.PutItem = codes "PutItem"
name_of operation.GetItem = codes "GetItem"
name_of operation.UpdateItem = codes "UpdateItem"
name_of operation.DeleteItem = codes "DeleteItem"
name_of operation.Query = codes "Query"
name_of operation.Scan = codes "Scan"
name_of operation.BatchGetItem = codes "BatchGetItem"
name_of operation.BatchWriteItem = codes "BatchWriteItem"
name_of operation.TransactWriteItems = codes "TransactWriteItems"
name_of operation.TransactGetItems = codes "TransactGetItems"
name_of operation.CreateTable = codes "CreateTable"
name_of operation.DeleteTable = codes "DeleteTable"
name_of operation.UpdateTable = codes "UpdateTable"
name_of operation.DescribeTable = codes "DescribeTable"
name_of operation.ListTables = codes "ListTables"
name_of operation.UpdateTimeToLive = codes "UpdateTimeToLive"
name_of operation.DescribeTimeToLive = codes "DescribeTimeToLive"

-- the operation of a name, where there is one
abbrev pub HasName : List ℕ → Option Operation → Type 0
HasName name (Some o) = name ≡ name_of o
HasName name None = (o : Operation) → ¬ (name ≡ name_of o)

-- the target of an operation: the version of the API, and the operation's name
abbrev pub target_of : Operation → List ℕ
target_of o = codes "DynamoDB_20120810." ++ name_of o

-- the operation that a target names, where it names one
abbrev pub IsTarget : List ℕ → Option Operation → Type 0
IsTarget target (Some o) = target ≡ target_of o
IsTarget target None = (o : Operation) → ¬ (target ≡ target_of o)

-- the operation that a message names; without a target it names none
abbrev pub IsNamed : Option (List ℕ) → Option Operation → Type 0
IsNamed (Some target) o = IsTarget target o
IsNamed None (Some o) = ⊥
IsNamed None None = ⊤

-- the form of an operation's body
abbrev pub form_of : Operation → Form
form_of operation.PutItem = form.PutItem
form_of operation.GetItem = form.GetItem
form_of operation.UpdateItem = form.UpdateItem
form_of operation.DeleteItem = form.DeleteItem
form_of operation.Query = form.Query
form_of operation.Scan = form.Scan
form_of operation.BatchGetItem = form.BatchGetItem
form_of operation.BatchWriteItem = form.BatchWriteItem
form_of operation.TransactWriteItems = form.TransactWriteItems
form_of operation.TransactGetItems = form.TransactGetItems
form_of operation.CreateTable = form.CreateTable
form_of operation.DeleteTable = form.DeleteTable
form_of operation.UpdateTable = form.UpdateTable
form_of operation.DescribeTable = form.DescribeTable
form_of operation.ListTables = form.ListTables
form_of operation.UpdateTimeToLive = form.UpdateTimeToLive
form_of operation.DescribeTimeToLive = form.DescribeTimeToLive
