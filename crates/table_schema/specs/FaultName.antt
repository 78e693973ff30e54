-- The names of faults.
use Rattle.std.specs.Prelude.{ℕ, List, codes}
use Rattle.table_schema.specs.declared.fault.SchemaFault.{SchemaFault}
use Rattle.table_schema.specs.declared.fault.SchemaFault.TheVariants.{BadName, BadKeySchema, BadDefinition, DefinitionMismatch, BadIndexName, BadIndexKey, BadProjection, TooManyIndexes}

-- the fault as error texts show it
unfoldable pub name_of : SchemaFault → List ℕ
name_of BadName = codes "BadName"
name_of BadKeySchema = codes "BadKeySchema"
name_of BadDefinition = codes "BadDefinition"
name_of DefinitionMismatch = codes "DefinitionMismatch"
name_of BadIndexName = codes "BadIndexName"
name_of BadIndexKey = codes "BadIndexKey"
name_of BadProjection = codes "BadProjection"
name_of TooManyIndexes = codes "TooManyIndexes"
