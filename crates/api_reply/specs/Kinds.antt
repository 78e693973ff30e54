-- The kinds of errors: what they are called, and with which status they are answered (API Reference: Common errors).
use Rattle.std.specs.Prelude.{ℕ, List, codes}
use Rattle.api_reply.specs.declared.kind.ErrorKind.{ErrorKind}
use Rattle.api_reply.specs.declared.kind.ErrorKind.TheVariants.{Validation, ResourceNotFound, ResourceInUse, ConditionalCheckFailed}
use Rattle.api_reply.specs.declared.kind.ErrorKind.TheVariants.{TransactionCanceled, TransactionConflict, IdempotentParameterMismatch}
use Rattle.api_reply.specs.declared.kind.ErrorKind.TheVariants.{LimitExceeded, Serialization, UnknownOperation, InternalServer}

abbrev pub status_of : ErrorKind → ℕ
status_of InternalServer = 500
status_of kind = 400

abbrev pub type_of : ErrorKind → List ℕ
type_of Validation = codes "com.amazon.coral.validate#ValidationException"
type_of ResourceNotFound = codes "com.amazonaws.dynamodb.v20120810#ResourceNotFoundException"
type_of ResourceInUse = codes "com.amazonaws.dynamodb.v20120810#ResourceInUseException"
type_of ConditionalCheckFailed = codes "com.amazonaws.dynamodb.v20120810#ConditionalCheckFailedException"
type_of TransactionCanceled = codes "com.amazonaws.dynamodb.v20120810#TransactionCanceledException"
type_of TransactionConflict = codes "com.amazonaws.dynamodb.v20120810#TransactionConflictException"
type_of IdempotentParameterMismatch = codes "com.amazonaws.dynamodb.v20120810#IdempotentParameterMismatchException"
type_of LimitExceeded = codes "com.amazonaws.dynamodb.v20120810#LimitExceededException"
type_of Serialization = codes "com.amazon.coral.service#SerializationException"
type_of UnknownOperation = codes "com.amazon.coral.service#UnknownOperationException"
type_of InternalServer = codes "com.amazonaws.dynamodb.v20120810#InternalServerError"
