-- The body of an error: its type and a text for people. Two kinds name the text in another case (API Reference:
-- TransactionCanceledException, IdempotentParameterMismatchException).
use Rattle.std.specs.Prelude.{ℕ, List, codes}
use Rattle.serde_json.specs.Data as json
use Rattle.serde_json.specs.Data.{Data, Members, no_members, member, object}
use Rattle.api_reply.specs.declared.kind.ErrorKind.{ErrorKind}
use Rattle.api_reply.specs.declared.kind.ErrorKind.TheVariants.{IdempotentParameterMismatch, TransactionCanceled}
use Rattle.api_reply.specs.Kinds.{type_of}

-- its type, before other members
abbrev pub typed : ErrorKind → Members → Members
typed kind rest = member (codes "__type") (json.string (type_of kind)) rest

abbrev pub text_first : ErrorKind → List ℕ → Data
text_first kind message = object (member (codes "Message") (json.string message) (typed kind no_members))

abbrev pub type_first : ErrorKind → List ℕ → Data
type_first kind message = object (typed kind (member (codes "message") (json.string message) no_members))

abbrev pub error : ErrorKind → List ℕ → Data
error IdempotentParameterMismatch message = text_first IdempotentParameterMismatch message
error TransactionCanceled message = text_first TransactionCanceled message
error kind message = type_first kind message
