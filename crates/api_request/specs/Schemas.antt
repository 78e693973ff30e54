-- What the body of a CreateTable states.
use Rattle.std.specs.Prelude.{◌≡◌, ℕ, List, if◌then◌else◌, Option, None, unwrap_or, Result, Ok, Err, codes, bytes_eq}
use Rattle.serde_json.specs.Data.{Data}
use Rattle.api_form.specs.declared.name.Name.{Name}
use Rattle.api_form.specs.declared.name.Name.TheVariants as name
use Rattle.table_schema.specs.declared.definition.Definition.{Definition}
use Rattle.table_schema.specs.declared.definition.KeyKind.{KeyKind}
use Rattle.table_schema.specs.declared.definition.KeyKind.TheVariants as kind
use Rattle.table_schema.specs.declared.index.Projection.{Projection}
use Rattle.table_schema.specs.declared.index.Projection.TheVariants as projection_kind
use Rattle.table_schema.specs.declared.stated.KeyElement.{KeyElement}
use Rattle.table_schema.specs.declared.stated.KeyRole.{KeyRole}
use Rattle.table_schema.specs.declared.stated.KeyRole.TheVariants as role
use Rattle.table_schema.specs.declared.stated.StatedIndex.{StatedIndex}
use Rattle.table_schema.specs.declared.stated.StatedSchema.{StatedSchema}
use Rattle.table_schema.specs.Index.{stated_of}
use Rattle.table_schema.specs.Rule.{IsValid}
use Rattle.table_schema.specs.Fault.{IsFirstFault}
use Rattle.table_request.specs.declared.tables.CreateTable.{CreateTable}
use Rattle.request_parts.specs.declared.refusal.Refusal.{Refusal}
use Rattle.request_parts.specs.declared.refusal.Refusal.TheVariants as refusal
use Rattle.request_parts.specs.Members.{text, text_at, stated_whole, list_at, inside, each}

-- the kind that a word names; the form has no other words
abbrev pub kind_named : List ℕ → KeyKind
kind_named word = if bytes_eq word (codes "S") then kind.S else (if bytes_eq word (codes "N") then kind.N else kind.B)

abbrev pub role_named : List ℕ → KeyRole
role_named word = if bytes_eq word (codes "HASH") then role.Hash else role.Range

abbrev pub definition : Data → Definition
definition d = record { name = text_at name.AttributeName d; kind = kind_named (text_at name.AttributeType d) }

abbrev pub key_element : Data → KeyElement
key_element d = record { name = text_at name.AttributeName d; role = role_named (text_at name.KeyType d) }

-- names beside another word than INCLUDE count for nothing
abbrev pub projection_named : List ℕ → List (List ℕ) → Projection
projection_named word names =
    if bytes_eq word (codes "KEYS_ONLY") then projection_kind.KeysOnly
    else (if bytes_eq word (codes "INCLUDE") then projection_kind.Include names else projection_kind.All)

abbrev pub projection : Data → Projection
projection d = projection_named (text_at name.ProjectionType d) (each text (list_at name.NonKeyAttributes d))

abbrev pub stated_index : Data → StatedIndex
stated_index d = record {
  name = text_at name.IndexName d;
  keys = each key_element (list_at name.KeySchema d);
  projection = projection (inside name.Projection d);
}

-- units of the throughput, where they are stated
abbrev pub units_of : Name → Data → Option ℕ
units_of unit d = stated_whole unit (inside name.ProvisionedThroughput d)

-- the schema as it is stated; units that are not count as 0, and no item of a new table expires
abbrev pub stated_schema : Data → StatedSchema
stated_schema d = record {
  name = text_at name.TableName d;
  definitions = each definition (list_at name.AttributeDefinitions d);
  keys = each key_element (list_at name.KeySchema d);
  locals = each stated_index (list_at name.LocalSecondaryIndexes d);
  globals = each stated_index (list_at name.GlobalSecondaryIndexes d);
  on_demand = bytes_eq (text_at name.BillingMode d) (codes "PAY_PER_REQUEST");
  read_units = unwrap_or (units_of name.ReadCapacityUnits d) 0;
  write_units = unwrap_or (units_of name.WriteCapacityUnits d) 0;
  created = 0;
  ttl = None;
  stream = None;
}

-- the schema that is stated, where it keeps every rule, else the first rule that it breaks
abbrev pub IsCreateTable : Data → Result CreateTable Refusal → Type 0
IsCreateTable d (Ok r) = (stated_of r.schema ≡ stated_schema d) × IsValid r.schema
IsCreateTable d (Err (refusal.Schema fault)) = IsFirstFault (stated_schema d) fault
IsCreateTable d (Err why) = ⊥
