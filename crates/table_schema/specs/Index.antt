-- Schemas and indexes as they are stated.
use Rattle.std.specs.Prelude.{◌≤◌, List, length, map, ◌++◌}
use Rattle.table_schema.specs.declared.index.Projection.{Projection}
use Rattle.table_schema.specs.declared.index.Projection.TheVariants.{KeysOnly, Include, All}
use Rattle.table_schema.specs.declared.index.LocalIndex.{LocalIndex}
use Rattle.table_schema.specs.declared.index.GlobalIndex.{GlobalIndex}
use Rattle.table_schema.specs.declared.schema.Schema.{Schema}
use Rattle.table_schema.specs.declared.stated.StatedIndex.{StatedIndex}
use Rattle.table_schema.specs.declared.stated.StatedSchema.{StatedSchema}
use Rattle.table_schema.specs.Key.{elements_of}

abbrev pub of_local : LocalIndex → StatedIndex
of_local index = record { name = index.name; keys = elements_of index.keys; projection = index.projection }

abbrev pub of_global : GlobalIndex → StatedIndex
of_global index = record { name = index.name; keys = elements_of index.keys; projection = index.projection }

-- the local and then the global ones
abbrev pub joined : List LocalIndex → List GlobalIndex → List StatedIndex
joined locals globals = map of_local locals ++ map of_global globals

-- all indexes of a table
abbrev pub indexes_of : StatedSchema → List StatedIndex
indexes_of stated = stated.locals ++ stated.globals

-- the statement of a schema: each key as its list of elements, and all else as it is
abbrev pub stated_of : Schema → StatedSchema
stated_of schema = record {
  name = schema.name;
  definitions = schema.definitions;
  keys = elements_of schema.keys;
  locals = map of_local schema.locals;
  globals = map of_global schema.globals;
  on_demand = schema.on_demand;
  read_units = schema.read_units;
  write_units = schema.write_units;
  created = schema.created;
  ttl = schema.ttl;
  stream = schema.stream;
}

-- where attributes are named, there are 1 to 20 of them
abbrev pub IsProjection : Projection → Type 0
IsProjection KeysOnly = Unit {0}
IsProjection (Include names) = (1 ≤ length names) × (length names ≤ 20)
IsProjection All = Unit {0}
