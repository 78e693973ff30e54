-- Which fault of a schema is told: the first in their order.
use Rattle.std.specs.Prelude.{ℕ, ◌<◌}
use Rattle.table_schema.specs.declared.stated.StatedSchema.{StatedSchema}
use Rattle.table_schema.specs.declared.fault.SchemaFault.{SchemaFault}
use Rattle.table_schema.specs.declared.fault.SchemaFault.TheVariants.{BadName, BadKeySchema, BadDefinition, DefinitionMismatch, BadIndexName, BadIndexKey, BadProjection, TooManyIndexes}
use Rattle.base_types.specs.declared.end.End.{End}
use Rattle.base_types.specs.declared.end.End.TheVariants.{Fault, NoMemory}
use Rattle.table_schema.specs.Rule.{IsFreeOf}

-- the fault's number: faults are answered in this order
abbrev pub number_of : SchemaFault → ℕ
number_of BadName = 1
number_of BadKeySchema = 2
number_of BadDefinition = 3
number_of DefinitionMismatch = 4
number_of BadIndexName = 5
number_of BadIndexKey = 6
number_of BadProjection = 7
number_of TooManyIndexes = 8

-- this fault is there, and none of a lesser number
abbrev pub IsFirstFault : StatedSchema → SchemaFault → Type 0
IsFirstFault stated fault =
    (¬ (IsFreeOf fault stated)) × ((lesser : SchemaFault) → number_of lesser < number_of fault → IsFreeOf lesser stated)

-- what is said of the fault, where it is one
abbrev pub IfFault : End SchemaFault → (SchemaFault → Type 0) → Type 0
IfFault (Fault fault) P = P fault
IfFault NoMemory P = Unit {0}
