-- Faults as error texts show them.
use Rattle.std.specs.Prelude.{ℕ, List, codes}
use Rattle.number38.specs.declared.number.NumberFault.TheVariants.{Grammar, TooManyDigits, OutOfRange}
use Rattle.attr_value.specs.declared.fault.ValueFault.TheVariants as value
use Rattle.attr_json.specs.declared.fault.JsonFault.{JsonFault}
use Rattle.attr_json.specs.declared.fault.JsonFault.TheVariants.{NotOneMember, UnknownType, BadNumber, BadBase64, BadSet, TooDeep}

-- the fault's name, and behind it that of the fault inside it
unfoldable pub name_of : JsonFault → List ℕ
name_of NotOneMember = codes "NotOneMember"
name_of UnknownType = codes "UnknownType"
name_of (BadNumber Grammar) = codes "BadNumber Grammar"
name_of (BadNumber TooManyDigits) = codes "BadNumber TooManyDigits"
name_of (BadNumber OutOfRange) = codes "BadNumber OutOfRange"
name_of BadBase64 = codes "BadBase64"
name_of (BadSet value.EmptySet) = codes "BadSet EmptySet"
name_of (BadSet value.DuplicateInSet) = codes "BadSet DuplicateInSet"
name_of (BadSet value.TooDeep) = codes "BadSet TooDeep"
name_of (BadSet value.BadPath) = codes "BadSet BadPath"
name_of TooDeep = codes "TooDeep"
