-- What people are told of a message that is refused before the tables are looked at. The texts are this project's own.
use Rattle.std.specs.Prelude.{ℕ, List, ◌++◌, codes, decimal}
use Rattle.table_schema.specs.FaultName.{name_of as schema_fault}
use Rattle.attr_json.specs.Names.{name_of as json_fault}
use Rattle.expr_words.specs.declared.parse_end.Clause.{Clause}
use Rattle.expr_words.specs.declared.parse_end.Clause.TheVariants as clause
use Rattle.expr_words.specs.declared.parse_end.ParseEnd.{ParseEnd}
use Rattle.expr_words.specs.declared.parse_end.ParseEnd.TheVariants as parse
use Rattle.api_form.specs.Names.{text_of}
use Rattle.api_form.specs.declared.name.Name.{Name}
use Rattle.api_form.specs.declared.fault.Fault.{Fault}
use Rattle.api_form.specs.declared.fault.Fault.TheVariants as fault
use Rattle.legacy_params.specs.declared.fault.LegacyFault.{LegacyFault}
use Rattle.legacy_params.specs.declared.fault.LegacyFault.TheVariants as legacy
use Rattle.request_parts.specs.declared.refusal.Refusal.{Refusal}
use Rattle.request_parts.specs.declared.refusal.Refusal.TheVariants as refusal
use Rattle.api_reply.specs.declared.kind.ErrorKind.{ErrorKind}
use Rattle.api_reply.specs.declared.kind.ErrorKind.TheVariants as kind

abbrev pub shape_message : List ℕ
shape_message = codes "Body is not JSON of the expected shape"

abbrev pub body_message : Fault → List ℕ
body_message fault.Kind = shape_message
body_message (fault.Missing member) = codes "Member is missing: " ++ text_of member
body_message (fault.OutOfRange member) = codes "Member is out of range: " ++ text_of member
body_message (fault.BadValue why) = codes "Attribute value is not valid: " ++ json_fault why
body_message fault.Select = codes "Select is not valid"

-- the word of a clause
abbrev pub clause_word : Clause → List ℕ
clause_word clause.Set = codes "SET"
clause_word clause.Remove = codes "REMOVE"
clause_word clause.Add = codes "ADD"
clause_word clause.Delete = codes "DELETE"

abbrev pub parse_message : ParseEnd → List ℕ
parse_message (parse.Syntax place) = codes "syntax error at byte " ++ decimal place
parse_message (parse.UndefinedName name) = codes "undefined attribute name: " ++ name
parse_message (parse.UndefinedValue name) = codes "undefined attribute value: " ++ name
parse_message parse.TooLong = codes "longer than 4096 bytes"
parse_message parse.TooManyOperators = codes "more than 300 operators"
parse_message parse.Overlap = codes "two document paths overlap"
parse_message (parse.ClauseTwice twice) = codes "clause twice: " ++ clause_word twice
parse_message parse.NoMemory = codes "not read"

-- the name of a fault of legacy members
abbrev pub legacy_word : LegacyFault → List ℕ
legacy_word legacy.Mixed = codes "Mixed"
legacy_word legacy.BadOperator = codes "BadOperator"
legacy_word legacy.BadCount = codes "BadCount"
legacy_word legacy.TwoForms = codes "TwoForms"
legacy_word legacy.NoAttributes = codes "NoAttributes"

-- which expression is refused
abbrev pub about : Name → List ℕ
about member = codes "Invalid " ++ text_of member ++ codes ": "

abbrev pub edge_message : Refusal → List ℕ
edge_message refusal.UnknownOperation = codes "Unknown operation"
edge_message refusal.Serialization = shape_message
edge_message (refusal.Body why) = body_message why
edge_message (refusal.Schema why) = codes "Table schema is not valid: " ++ schema_fault why
edge_message (refusal.Legacy why) = codes "Legacy member is not valid: " ++ legacy_word why
edge_message (refusal.Expression member why) = about member ++ parse_message why
edge_message (refusal.UnusedName name) = codes "Unused attribute name: " ++ name
edge_message (refusal.UnusedValue name) = codes "Unused attribute value: " ++ name

abbrev pub body_kind : Fault → ErrorKind
body_kind fault.Kind = kind.Serialization
body_kind why = kind.Validation

abbrev pub edge_kind : Refusal → ErrorKind
edge_kind refusal.UnknownOperation = kind.UnknownOperation
edge_kind refusal.Serialization = kind.Serialization
edge_kind (refusal.Body why) = body_kind why
edge_kind why = kind.Validation
