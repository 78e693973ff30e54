-- Tables made, dropped, changed, described and listed (API Reference: CreateTable, DeleteTable, UpdateTable,
-- DescribeTable, ListTables, UpdateTimeToLive, DescribeTimeToLive).
use Rattle.std.specs.Prelude.{◌≡◌, ℕ, ◌+◌, List, [], ◌∷◌, ◌++◌, map, filter, take, length, nat_lt, nat_le, Bool, true, false, not, ◌||◌, bytes_eq}
use Rattle.std.specs.Prelude.{if◌then◌else◌, Option, None, Some, is_some, option_map, unwrap_or}
use Rattle.std.specs.List.{list_any}
use Rattle.std.specs.Ordering.{nat_cmp, is_lt}
use Rattle.std.specs.Cmp.Lexicographic.{slice_cmp}
use Rattle.std.specs.Map.{remove_entry}
use Rattle.std.specs.BTreeMap.{is_at, insert_entry}
use Rattle.table_schema.specs.declared.definition.Definition.{Definition}
use Rattle.table_schema.specs.declared.definition.KeyKind.{KeyKind}
use Rattle.table_schema.specs.declared.definition.KeyKind.TheVariants.{S, N, B}
use Rattle.table_schema.specs.declared.index.GlobalIndex.{GlobalIndex}
use Rattle.table_schema.specs.declared.schema.Schema.{Schema}
use Rattle.table_schema.specs.declared.fault.SchemaFault.{SchemaFault}
use Rattle.table_schema.specs.declared.fault.SchemaFault.TheVariants.{BadDefinition, BadIndexName}
use Rattle.table_schema.specs.Kind.{kind_of}
use Rattle.table_schema.specs.KeyName.{is_key_name}
use Rattle.table_schema.specs.Rule.{IsValid}
use Rattle.table_schema.specs.Index.{stated_of}
use Rattle.table_schema.specs.Fault.{IsFirstFault}
use Rattle.table_request.specs.declared.tables.CreateTable.{CreateTable}
use Rattle.table_request.specs.declared.tables.DeleteTable.{DeleteTable}
use Rattle.table_request.specs.declared.tables.DescribeTable.{DescribeTable}
use Rattle.table_request.specs.declared.tables.ListTables.{ListTables}
use Rattle.table_request.specs.declared.tables.UpdateTable.{UpdateTable}
use Rattle.table_request.specs.declared.tables.TableUpdate.{TableUpdate}
use Rattle.table_request.specs.declared.tables.IndexChange.{IndexChange}
use Rattle.table_request.specs.declared.tables.IndexChange.TheVariants.{Make, Remove}
use Rattle.table_request.specs.declared.time_to_live.UpdateTimeToLive.{UpdateTimeToLive}
use Rattle.table_request.specs.declared.time_to_live.DescribeTimeToLive.{DescribeTimeToLive}
use Rattle.table_model.specs.declared.reply.Reply.{Reply}
use Rattle.table_model.specs.declared.reply.Reply.TheVariants as answer
use Rattle.table_model.specs.declared.reply.TableNames.{TableNames}
use Rattle.table_model.specs.declared.refusal.Refusal.{Refusal}
use Rattle.table_model.specs.declared.refusal.Refusal.TheVariants.{Invalid, NoTable, NoIndex, TableExists, TooManyTables}
use Rattle.table_model.specs.declared.refusal.Invalid.TheVariants as invalid
use Rattle.table_model.specs.declared.refusal.TtlFault.{TtlFault}
use Rattle.table_model.specs.declared.refusal.TtlFault.TheVariants.{AlreadyEnabled, AlreadyDisabled, OtherAttribute}
use Rattle.row_keys.specs.Rows.{index_keys}
use Rattle.table_model.specs.Pages.{global_named, local_named}
use Rattle.table_model.specs.Database.{Database, Table, Effect, table_named, with_table, refused, in_table, unless}

-- ---- tables made and dropped

-- the most tables of a database
abbrev pub most_tables : ℕ
most_tables = 256

-- a new table without rows, made at the moment
abbrev pub with_new_table : Database → Schema → Database
with_new_table db schema = record {
  tables = insert_entry (slice_cmp nat_cmp) db.tables schema.name (record { number = db.made + 1; schema = schema; rows = [] });
  tokens = db.tokens;
  made = db.made + 1;
}

abbrev pub made_at : ℕ → Schema → Schema
made_at moment schema = record schema { created = moment }

abbrev pub create_if : Database → Schema → ℕ → Option Table → Effect
create_if db schema moment (Some table) = refused db (TableExists schema.name)
create_if db schema moment None =
    if nat_le most_tables (length db.tables) then refused db TooManyTables
    else (with_new_table db (made_at moment schema), answer.Described (made_at moment schema))

abbrev pub create_table : Database → CreateTable → ℕ → Effect
create_table db r moment = create_if db r.schema moment (table_named db r.schema.name)

-- its items go with it
abbrev pub without_table : Database → List ℕ → Database
without_table db name = record db { tables = remove_entry (is_at (slice_cmp nat_cmp name)) db.tables }

abbrev pub delete_table : Database → DeleteTable → Effect
delete_table db r =
    in_table db r.table (table_named db r.table) (λ table. (without_table db r.table, answer.Described table.schema))

abbrev pub describe_table : Database → DescribeTable → Effect
describe_table db r = in_table db r.table (table_named db r.table) (λ table. (db, answer.Table table.schema))

-- ---- time to live

-- whether items are to expire, by the attribute by which they do: why they can't
abbrev pub ttl_fault : Option (List ℕ) → List ℕ → Bool → Option TtlFault
ttl_fault None name true = None
ttl_fault None name false = Some AlreadyDisabled
ttl_fault (Some known) name true = Some AlreadyEnabled
ttl_fault (Some known) name false = if bytes_eq known name then None else Some OtherAttribute

abbrev pub ttl_refusal : Schema → UpdateTimeToLive → Option Refusal
ttl_refusal schema r = option_map (λ fault. Invalid (invalid.TimeToLive fault)) (ttl_fault schema.ttl r.name r.enabled)

-- the schema with the time to live that is stated
abbrev pub with_ttl : Schema → UpdateTimeToLive → Schema
with_ttl schema r = record schema { ttl = if r.enabled then Some r.name else None }

-- items stay as they are
abbrev pub update_time_to_live : Database → UpdateTimeToLive → Effect
update_time_to_live db r =
    in_table db r.table (table_named db r.table)
    (λ table. unless db (ttl_refusal table.schema r)
    (with_table db r.table (record table { schema = with_ttl table.schema r }), answer.TimeToLiveSet r.name r.enabled))

abbrev pub describe_time_to_live : Database → DescribeTimeToLive → Effect
describe_time_to_live db r = in_table db r.table (table_named db r.table) (λ table. (db, answer.TimeToLive table.schema.ttl))

-- ---- names

-- whether a name comes after the one that is stated
abbrev pub is_after : Option (List ℕ) → List ℕ → Bool
is_after None name = true
is_after (Some start) name = is_lt (slice_cmp nat_cmp start name)

-- the last of some names
abbrev pub last_name : List (List ℕ) → Option (List ℕ)
last_name [] = None
last_name (name ∷ []) = Some name
last_name (name ∷ (other ∷ others)) = last_name (other ∷ others)

-- the first names, and the last of them where more follow
abbrev pub listed : ℕ → List (List ℕ) → TableNames
listed limit names = record {
  names = take limit names;
  last = if nat_lt limit (length names) then last_name (take limit names) else None;
}

abbrev pub list_tables : Database → ListTables → Effect
list_tables db r = (db, answer.Tables (listed r.limit (filter (is_after r.after) (map (λ entry. entry.0) db.tables))))

-- ---- tables changed

abbrev pub same_kind : KeyKind → KeyKind → Bool
same_kind S S = true
same_kind N N = true
same_kind B B = true
same_kind kind other = false

-- a definition gives another type to a name that has one
abbrev pub contradicts : Option KeyKind → KeyKind → Bool
contradicts None kind = false
contradicts (Some known) kind = not (same_kind known kind)

abbrev pub added_if : Option KeyKind → Definition → List Definition → List Definition
added_if None definition known = known ++ definition ∷ []
added_if (Some kind) definition known = known

-- the definitions with these, in their order, each name once
abbrev pub with_definitions : List Definition → List Definition → List Definition
with_definitions known [] = known
with_definitions known (definition ∷ others) = with_definitions (added_if (kind_of definition.name known) definition known) others

-- some of the definitions contradicts one before it
abbrev pub has_contradiction : List Definition → List Definition → Bool
has_contradiction known [] = false
has_contradiction known (definition ∷ others) =
    contradicts (kind_of definition.name known) definition.kind
    || has_contradiction (added_if (kind_of definition.name known) definition known) others

-- the name of the definition does not have 1 to 255 bytes
abbrev pub has_bad_name : Definition → Bool
has_bad_name definition = nat_lt (length definition.name) 1 || nat_lt 255 (length definition.name)

-- some of the definitions has a bad name, or contradicts one before it
abbrev pub has_bad_definition : List Definition → List Definition → Bool
has_bad_definition known added = list_any has_bad_name added || has_contradiction known added

-- some key of the table or of an index has the name
abbrev pub is_used : Schema → List ℕ → Bool
is_used schema name = is_key_name schema.keys name || list_any (λ keys. is_key_name keys name) (index_keys schema)

-- the schema without the definitions that no key uses
abbrev pub with_used : Schema → Schema
with_used schema = record schema { definitions = filter (λ definition. is_used schema definition.name) schema.definitions }

abbrev pub changed_indexes : Option IndexChange → List GlobalIndex → List GlobalIndex
changed_indexes None indexes = indexes
changed_indexes (Some (Make index)) indexes = indexes ++ index ∷ []
changed_indexes (Some (Remove name)) indexes = filter (λ index. not (bytes_eq index.name name)) indexes

-- the schema as the update states it
abbrev pub updated_schema : Schema → TableUpdate → Schema
updated_schema schema update =
    with_used
    (record schema {
      definitions = with_definitions schema.definitions update.definitions;
      globals = changed_indexes update.index schema.globals;
      on_demand = unwrap_or update.on_demand schema.on_demand;
      read_units = unwrap_or update.read_units schema.read_units;
      write_units = unwrap_or update.write_units schema.write_units;
    })

-- an index of the table has the name
abbrev pub has_index : Schema → List ℕ → Bool
has_index schema name = is_some (local_named name schema.locals) || is_some (global_named name schema.globals)

-- an index that goes is not there, or one that comes is
abbrev pub index_refusal : Schema → Option IndexChange → Option Refusal
index_refusal schema None = None
index_refusal schema (Some (Remove name)) = if is_some (global_named name schema.globals) then None else Some (NoIndex name)
index_refusal schema (Some (Make index)) = if has_index schema index.name then Some (Invalid (invalid.Schema BadIndexName)) else None

abbrev pub schema_refusal : SchemaFault → Refusal
schema_refusal fault = Invalid (invalid.Schema fault)

-- what comes of the schema that an update states: the first of its faults, or the table with it
abbrev pub IsUpdatedTo : Database → List ℕ → Table → Schema → Database → Reply → Type 0
IsUpdatedTo db name table schema new (answer.Refused refusal) =
    (new ≡ db) × ((fault : SchemaFault) × IsFirstFault (stated_of schema) fault × (refusal ≡ schema_refusal fault))
IsUpdatedTo db name table schema new reply =
    IsValid schema × (new ≡ with_table db name (record table { schema = schema })) × (reply ≡ answer.Described schema)

abbrev pub IsBadlyDefinedOr : Bool → Database → Database → Reply → Type 0 → Type 0
IsBadlyDefinedOr true db new reply P = (new, reply) ≡ refused db (schema_refusal BadDefinition)
IsBadlyDefinedOr false db new reply P = P

abbrev pub IsRefusedFirst : Option Refusal → Database → Database → Reply → Type 0 → Type 0
IsRefusedFirst (Some refusal) db new reply P = (new, reply) ≡ refused db refusal
IsRefusedFirst None db new reply P = P

abbrev pub IsUpdateIn : Database → UpdateTable → Option Table → Database → Reply → Type 0
IsUpdateIn db r None new reply = (new, reply) ≡ refused db (NoTable r.table)
IsUpdateIn db r (Some table) new reply =
    IsRefusedFirst (index_refusal table.schema r.update.index) db new reply
    (IsBadlyDefinedOr (has_bad_definition table.schema.definitions r.update.definitions) db new reply
    (IsUpdatedTo db r.table table (updated_schema table.schema r.update) new reply))

-- what an UpdateTable does and is answered
abbrev pub IsUpdateTable : Database → UpdateTable → Database → Reply → Type 0
IsUpdateTable db r new reply = IsUpdateIn db r (table_named db r.table) new reply
