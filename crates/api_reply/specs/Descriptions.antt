-- How a table is described (API Reference: TableDescription, TimeToLiveSpecification, TimeToLiveDescription).
use Rattle.std.specs.Prelude.{ℕ, ◌/◌, List, [], ◌∷◌, ◌++◌, codes, Bool, true, false, Option, None, Some, option_map}
use Rattle.serde_json.specs.Data as json
use Rattle.serde_json.specs.Data.{Data, no_members, member, object, string, boolean}
use Rattle.table_schema.specs.declared.definition.Definition.{Definition}
use Rattle.table_schema.specs.declared.definition.KeyKind.{KeyKind}
use Rattle.table_schema.specs.declared.definition.KeyKind.TheVariants as kind
use Rattle.table_schema.specs.declared.index.GlobalIndex.{GlobalIndex}
use Rattle.table_schema.specs.declared.index.LocalIndex.{LocalIndex}
use Rattle.table_schema.specs.declared.index.Projection.{Projection}
use Rattle.table_schema.specs.declared.index.Projection.TheVariants as projection
use Rattle.table_schema.specs.declared.keys.KeyNames.{KeyNames}
use Rattle.table_schema.specs.declared.schema.Schema.{Schema}
use Rattle.api_reply.specs.Json.{whole, optional, list_of}

-- ---- attributes

-- the letter of a key's type
abbrev pub letter_of : KeyKind → List ℕ
letter_of kind.S = codes "S"
letter_of kind.N = codes "N"
letter_of kind.B = codes "B"

abbrev pub definition : Definition → Data
definition d = object (member (codes "AttributeName") (string d.name) (member (codes "AttributeType") (string (letter_of d.kind)) no_members))

-- ---- keys

abbrev pub key_element : List ℕ → List ℕ → Data
key_element role name = object (member (codes "AttributeName") (string name) (member (codes "KeyType") (string role) no_members))

abbrev pub sort_element : Option (List ℕ) → json.Items
sort_element None = json.no_items
sort_element (Some name) = json.item (key_element (codes "RANGE") name) json.no_items

-- the partition key, and then the sort key where there is one
abbrev pub key_schema : KeyNames → Data
key_schema keys = json.array (json.item (key_element (codes "HASH") keys.partition) (sort_element keys.sort))

-- ---- indexes

abbrev pub kept_names : Projection → Option Data
kept_names (projection.Include names) = Some (list_of string names)
kept_names other = None

abbrev pub projection_type : Projection → List ℕ
projection_type projection.KeysOnly = codes "KEYS_ONLY"
projection_type (projection.Include names) = codes "INCLUDE"
projection_type projection.All = codes "ALL"

abbrev pub projected : Projection → Data
projected p =
    object
    (optional (codes "NonKeyAttributes") (kept_names p)
    (member (codes "ProjectionType") (string (projection_type p)) no_members))

abbrev pub local_index : LocalIndex → Data
local_index i =
    object
    (member (codes "IndexName") (string i.name)
    (member (codes "KeySchema") (key_schema i.keys)
    (member (codes "Projection") (projected i.projection) no_members)))

abbrev pub global_index : GlobalIndex → Data
global_index i =
    object
    (member (codes "IndexName") (string i.name)
    (member (codes "IndexStatus") (string (codes "ACTIVE"))
    (member (codes "KeySchema") (key_schema i.keys)
    (member (codes "Projection") (projected i.projection) no_members))))

-- indexes, where there are some
abbrev pub indexes : {A : Type 0} → (A → Data) → List A → Option Data
indexes made [] = None
indexes made (i ∷ is) = Some (list_of made (i ∷ is))

-- ---- the table

abbrev pub billing_mode : Bool → List ℕ
billing_mode true = codes "PAY_PER_REQUEST"
billing_mode false = codes "PROVISIONED"

abbrev pub billing : Bool → Data
billing on_demand = object (member (codes "BillingMode") (string (billing_mode on_demand)) no_members)

-- units of reads and of writes a second
abbrev pub throughput : ℕ → ℕ → Data
throughput reads writes =
    object
    (member (codes "NumberOfDecreasesToday") (whole 0)
    (member (codes "ReadCapacityUnits") (whole reads)
    (member (codes "WriteCapacityUnits") (whole writes) no_members)))

-- the name of a table among all resources
abbrev pub arn : List ℕ → List ℕ
arn name = codes "arn:aws:dynamodb:ddblocal:000000000000:table/" ++ name

-- its moment is told in whole seconds
abbrev pub description : Schema → Data
description s =
    object
    (member (codes "AttributeDefinitions") (list_of definition s.definitions)
    (member (codes "BillingModeSummary") (billing s.on_demand)
    (member (codes "CreationDateTime") (whole (s.created / 1000000))
    (optional (codes "GlobalSecondaryIndexes") (indexes global_index s.globals)
    (member (codes "KeySchema") (key_schema s.keys)
    (optional (codes "LocalSecondaryIndexes") (indexes local_index s.locals)
    (member (codes "ProvisionedThroughput") (throughput s.read_units s.write_units)
    (member (codes "TableArn") (string (arn s.name))
    (member (codes "TableName") (string s.name)
    (member (codes "TableStatus") (string (codes "ACTIVE")) no_members))))))))))

-- ---- time to live

-- as it was stated
abbrev pub specification : List ℕ → Bool → Data
specification name enabled = object (member (codes "AttributeName") (string name) (member (codes "Enabled") (boolean enabled) no_members))

abbrev pub ttl_status : Option (List ℕ) → List ℕ
ttl_status None = codes "DISABLED"
ttl_status (Some name) = codes "ENABLED"

-- the attribute by which items expire, where they do
abbrev pub time_to_live : Option (List ℕ) → Data
time_to_live name =
    object
    (optional (codes "AttributeName") (option_map string name)
    (member (codes "TimeToLiveStatus") (string (ttl_status name)) no_members))
