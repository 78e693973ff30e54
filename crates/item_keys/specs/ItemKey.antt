-- The key of an item, or what is wrong with it (Developer Guide: Core components; Service quotas: key limits).
use Rattle.std.specs.Prelude.{ℕ, ℤ, List, length, Bool, nat_lt, Option, None, Some, Result, Ok, Err, if◌then◌else◌, ◌&&◌, true, false}
use Rattle.std.specs.Prelude.{◌==◌}
use Rattle.std.specs.Result.{result_map_both}
use Rattle.table_schema.specs.declared.definition.KeyKind.{KeyKind}
use Rattle.table_schema.specs.declared.definition.KeyKind.TheVariants as kinds
use Rattle.table_schema.specs.declared.keys.KeyNames.{KeyNames}
use Rattle.table_schema.specs.declared.schema.Schema.{Schema}
use Rattle.table_schema.specs.Kind.{kind_of}
use Rattle.table_schema.specs.KeyName.{is_key_name}
use Rattle.attr_value.specs.Tree.{Tree, text, number, binary, Attributes, no_attributes, attribute}
use Rattle.attr_value.specs.Paths.{value_at}
use Rattle.item_keys.specs.declared.fault.KeyFault.{KeyFault}
use Rattle.item_keys.specs.declared.fault.KeyFault.TheVariants.{Missing, WrongType, Empty, TooLong, Extra}
use Rattle.base_types.specs.declared.end.End.{End}
use Rattle.base_types.specs.declared.end.End.TheVariants.{Fault, NoMemory}
use Rattle.item_keys.specs.declared.value.KeyValue.{KeyValue}
use Rattle.item_keys.specs.declared.value.KeyValue.TheVariants.{S, N, B}
use Rattle.item_keys.specs.declared.key.Key.{Key}

-- a value of so many bytes, where it has from 1 to `limit`
abbrev pub within : ℕ → ℕ → KeyValue → Result KeyValue KeyFault
within limit bytes value = if bytes == 0 then Err Empty else (if nat_lt limit bytes then Err TooLong else Ok value)

-- a value of an attribute as a key value of the type that is defined
abbrev pub typed : ℕ → Option KeyKind → Tree → Result KeyValue KeyFault
typed limit (Some kinds.S) (text bytes) = within limit (length bytes) (S bytes)
typed limit (Some kinds.N) (number value) = Ok (N value)
typed limit (Some kinds.B) (binary bytes) = within limit (length bytes) (B bytes)
typed limit kind value = Err WrongType

-- the same of an attribute that may be absent
abbrev pub part_of : ℕ → Option KeyKind → Option Tree → Result KeyValue KeyFault
part_of limit kind None = Err Missing
part_of limit kind (Some value) = typed limit kind value

-- the part of a key that an item has in the attribute of this name
abbrev pub part_in : Schema → ℕ → List ℕ → Attributes → Result KeyValue KeyFault
part_in schema limit name item = part_of limit (kind_of name schema.definitions) (value_at name item)

-- the sort key's value, where the key has one
abbrev pub sort_in : Schema → Option (List ℕ) → Attributes → Result (Option KeyValue) KeyFault
sort_in schema None item = Ok None
sort_in schema (Some name) item = result_map_both Some (λ fault. fault) (part_in schema 1024 name item)

-- what two parts make, or the first fault
abbrev pub both : {A B C : Type 0} → (A → B → C) → Result A KeyFault → Result B KeyFault → Result C KeyFault
both make (Err fault) second = Err fault
both make (Ok first) (Err fault) = Err fault
both make (Ok first) (Ok second) = Ok (make first second)

abbrev pub key_from : KeyValue → Option KeyValue → Key
key_from partition sort = record { partition = partition; sort = sort }

-- the key that an item has under these names, or its first fault: of the partition key, then of the sort key
unfoldable pub key_in : Schema → KeyNames → Attributes → Result Key KeyFault
key_in schema keys item = both key_from (part_in schema 2048 keys.partition item) (sort_in schema keys.sort item)

-- whether all attributes are of the key
abbrev pub has_only : KeyNames → Attributes → Bool
has_only keys no_attributes = true
has_only keys (attribute name value rest) = is_key_name keys name && has_only keys rest

-- a key, where there is no other attribute
abbrev pub alone : Bool → Result Key KeyFault → Result Key KeyFault
alone only (Err fault) = Err fault
alone true (Ok key) = Ok key
alone false (Ok key) = Err Extra

-- the key that an item is, or its first fault: Extra comes last
abbrev pub key_alone : Schema → KeyNames → Attributes → Result Key KeyFault
key_alone schema keys item = alone (has_only keys item) (key_in schema keys item)

-- what is said of the fault, where it is one
abbrev pub IfFault : End KeyFault → (KeyFault → Type 0) → Type 0
IfFault (Fault fault) P = P fault
IfFault NoMemory P = Unit {0}
