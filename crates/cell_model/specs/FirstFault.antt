-- The first fault of a schema as it is stated, computed. That it is the one of `table_schema` stands in
-- `proofs/FirstFaults.antt`.
use Rattle.std.specs.Prelude.{ℕ, Bool, true, false, not, ◌&&◌, ◌||◌, List, [], ◌∷◌, map, length, nat_le, nat_eq, bytes_eq, Option, None, Some, if◌then◌else◌}
use Rattle.std.specs.Char.{is_ascii_alphanumeric}
use Rattle.std.specs.List.{list_all}
use Rattle.table_schema.specs.declared.index.Projection.{Projection}
use Rattle.table_schema.specs.declared.index.Projection.TheVariants.{KeysOnly, Include, All}
use Rattle.table_schema.specs.declared.stated.KeyElement.{KeyElement}
use Rattle.table_schema.specs.declared.stated.KeyRole.{KeyRole}
use Rattle.table_schema.specs.declared.stated.KeyRole.TheVariants.{Hash, Range}
use Rattle.table_schema.specs.declared.stated.StatedSchema.{StatedSchema}
use Rattle.table_schema.specs.declared.fault.SchemaFault.{SchemaFault}
use Rattle.table_schema.specs.declared.fault.SchemaFault.TheVariants.{BadName, BadKeySchema, BadDefinition, DefinitionMismatch, BadIndexName, BadIndexKey, BadProjection, TooManyIndexes}
use Rattle.table_schema.specs.Index.{indexes_of}
use Rattle.table_schema.specs.Rule.{IsSound}
use Rattle.table_schema.specs.Fault.{IsFirstFault}
use Rattle.table_schema.specs.NameSet.{has, are_new}
use Rattle.table_schema.specs.Stated.{in_keys}

-- a letter, a digit, '_', '.' or '-'
abbrev pub is_name_byte : ℕ → Bool
is_name_byte byte = is_ascii_alphanumeric byte || (nat_eq byte 95 || (nat_eq byte 46 || nat_eq byte 45))

-- the number of bytes is between these
abbrev pub has_length : ℕ → ℕ → List ℕ → Bool
has_length least most name = nat_le least (length name) && nat_le (length name) most

abbrev pub is_table_name : List ℕ → Bool
is_table_name name = has_length 3 255 name && list_all is_name_byte name

abbrev pub is_attribute_name : List ℕ → Bool
is_attribute_name = has_length 1 255

abbrev pub is_hash : KeyRole → Bool
is_hash Hash = true
is_hash Range = false

-- one HASH, or one HASH and one RANGE of another attribute
abbrev pub is_key_schema : List KeyElement → Bool
is_key_schema [] = false
is_key_schema (hash ∷ []) = is_hash hash.role
is_key_schema (hash ∷ range ∷ []) = is_hash hash.role && (not (is_hash range.role) && not (bytes_eq hash.name range.name))
is_key_schema (hash ∷ range ∷ other ∷ others) = false

-- both keys have a second element, and their first ones have one name
abbrev pub is_local_to : List KeyElement → List KeyElement → Bool
is_local_to (hash ∷ range ∷ others) (index_hash ∷ index_range ∷ index_others) = bytes_eq index_hash.name hash.name
is_local_to table index = false

-- some definition has the name
unfoldable pub defines : StatedSchema → List ℕ → Bool
defines stated name = has (map (λ d. d.name) stated.definitions) name

-- the name is in the table's key, or in an index's
unfoldable pub is_in_key : StatedSchema → List ℕ → Bool
is_in_key stated name = has (map (λ e. e.name) stated.keys) name || in_keys name (indexes_of stated)

-- the names of the key are defined
unfoldable pub defines_key : StatedSchema → List KeyElement → Bool
defines_key stated keys = list_all (λ e. defines stated e.name) keys

-- the names of all keys are defined
unfoldable pub defines_keys : StatedSchema → Bool
defines_keys stated = defines_key stated stated.keys && list_all (λ i. defines_key stated i.keys) (indexes_of stated)

-- where attributes are named, there are 1 to 20 of them
abbrev pub is_projection : Projection → Bool
is_projection KeysOnly = true
is_projection (Include names) = nat_le 1 (length names) && nat_le (length names) 20
is_projection All = true

-- whether the fault is not there
unfoldable pub is_free_of : SchemaFault → StatedSchema → Bool
is_free_of BadName stated = is_table_name stated.name
is_free_of BadKeySchema stated = is_key_schema stated.keys
is_free_of BadDefinition stated =
    list_all (λ d. is_attribute_name d.name) stated.definitions && are_new (λ d. d.name) [] stated.definitions
is_free_of DefinitionMismatch stated = list_all (λ d. is_in_key stated d.name) stated.definitions && defines_keys stated
is_free_of BadIndexName stated =
    list_all (λ i. is_table_name i.name) (indexes_of stated) && are_new (λ i. i.name) [] (indexes_of stated)
is_free_of BadIndexKey stated =
    list_all (λ i. is_key_schema i.keys) (indexes_of stated) && list_all (λ i. is_local_to stated.keys i.keys) stated.locals
is_free_of BadProjection stated = list_all (λ i. is_projection i.projection) (indexes_of stated)
is_free_of TooManyIndexes stated = nat_le (length stated.locals) 5 && nat_le (length stated.globals) 20

-- the first of these faults that is there
unfoldable pub first_of : List SchemaFault → StatedSchema → Option SchemaFault
first_of [] stated = None
first_of (fault ∷ others) stated = if is_free_of fault stated then first_of others stated else Some fault

-- the schema's first fault is told, or that it has none
abbrev pub TellsFirst : StatedSchema → Option SchemaFault → Type 0
TellsFirst stated None = IsSound stated
TellsFirst stated (Some fault) = IsFirstFault stated fault

-- the fault of the least number that is there
unfoldable pub first_fault : StatedSchema → Option SchemaFault
first_fault =
    first_of (BadName ∷ BadKeySchema ∷ BadDefinition ∷ DefinitionMismatch ∷ BadIndexName ∷ BadIndexKey ∷ BadProjection ∷ TooManyIndexes ∷ [])
