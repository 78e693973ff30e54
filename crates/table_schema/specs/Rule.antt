-- The rules of schemas, over schemas as they are stated.
use Rattle.std.specs.Prelude.{◌≡◌, ◌≢◌, ℕ, ◌≤◌, ◌⊎◌, ◌↔◌, List, length, All, Any, AllPairs}
use Rattle.table_schema.specs.declared.stated.KeyElement.{KeyElement}
use Rattle.table_schema.specs.declared.stated.StatedSchema.{StatedSchema}
use Rattle.table_schema.specs.declared.schema.Schema.{Schema}
use Rattle.table_schema.specs.declared.fault.SchemaFault.{SchemaFault}
use Rattle.table_schema.specs.declared.fault.SchemaFault.TheVariants.{BadName, BadKeySchema, BadDefinition, DefinitionMismatch, BadIndexName, BadIndexKey, BadProjection, TooManyIndexes}
use Rattle.table_schema.specs.Name.{IsTableName, IsAttributeName}
use Rattle.table_schema.specs.Key.{Names, IsKeySchema, IsLocalTo}
use Rattle.table_schema.specs.Index.{indexes_of, stated_of, IsProjection}

-- every definition has a name of an attribute, and no two of them have one name
pub record HasValidDefinitions (stated : StatedSchema) : Type 0 where
  pub named : All (λ d. IsAttributeName d.name) stated.definitions
  pub distinct : AllPairs (λ d e. d.name ≢ e.name) stated.definitions

-- some definition has the name
unfoldable pub Defines : StatedSchema → List ℕ → Type 0
Defines stated name = Any (λ d. d.name ≡ name) stated.definitions

-- the name is in the table's key, or in an index's
unfoldable pub IsKeyAttribute : StatedSchema → List ℕ → Type 0
IsKeyAttribute stated name = Names stated.keys name ⊎ Any (λ i. Names i.keys name) (indexes_of stated)

-- a name is defined exactly where it is in a key
unfoldable pub DefinesItsKeys : StatedSchema → Type 0
DefinesItsKeys stated = (name : List ℕ) → Defines stated name ↔ IsKeyAttribute stated name

-- the names of one key are all defined
unfoldable pub DefinesParts : StatedSchema → List KeyElement → Type 0
DefinesParts stated keys = (name : List ℕ) → Names keys name → Defines stated name

-- the names of every key are defined
unfoldable pub DefinesEveryKey : StatedSchema → Type 0
DefinesEveryKey stated = (name : List ℕ) → IsKeyAttribute stated name → Defines stated name

-- every index has a name like a table's, and no two of them have one name
pub record HasValidIndexNames (stated : StatedSchema) : Type 0 where
  pub named : All (λ i. IsTableName i.name) (indexes_of stated)
  pub distinct : AllPairs (λ i j. i.name ≢ j.name) (indexes_of stated)

-- every index has a key, and that of a local one has the table's HASH and a RANGE, on a table with a RANGE
pub record HasValidIndexKeys (stated : StatedSchema) : Type 0 where
  pub keys : All (λ i. IsKeySchema i.keys) (indexes_of stated)
  pub local : All (λ i. IsLocalTo stated.keys i.keys) stated.locals

-- at most 5 local indexes and 20 global ones
pub record HasFewIndexes (stated : StatedSchema) : Type 0 where
  pub local : length stated.locals ≤ 5
  pub global : length stated.globals ≤ 20

-- what holds where the fault is not there
abbrev pub IsFreeOf : SchemaFault → StatedSchema → Type 0
IsFreeOf BadName stated = IsTableName stated.name
IsFreeOf BadKeySchema stated = IsKeySchema stated.keys
IsFreeOf BadDefinition stated = HasValidDefinitions stated
IsFreeOf DefinitionMismatch stated = DefinesItsKeys stated
IsFreeOf BadIndexName stated = HasValidIndexNames stated
IsFreeOf BadIndexKey stated = HasValidIndexKeys stated
IsFreeOf BadProjection stated = All (λ i. IsProjection i.projection) (indexes_of stated)
IsFreeOf TooManyIndexes stated = HasFewIndexes stated

-- none of the faults is there
abbrev pub IsSound : StatedSchema → Type 0
IsSound stated = (fault : SchemaFault) → IsFreeOf fault stated

-- none of them is in the schema's statement
abbrev pub IsValid : Schema → Type 0
IsValid schema = IsSound (stated_of schema)
