-- What commands make of the catalog, and what is told of them (API Reference: CreateTable, DeleteTable, UpdateTable).
use Rattle.std.specs.Prelude.{ℕ, ◌+◌, Bool, true, false, not, ◌&&◌, nat_eq, nat_le, List, [], ◌∷◌, ◌++◌, map, filter, length, bytes_eq, Option, None, Some, is_some, option_map, if◌then◌else◌}
use Rattle.std.specs.List.{filter_map, list_all, range_with_len}
use Rattle.table_schema.specs.declared.index.GlobalIndex.{GlobalIndex}
use Rattle.table_schema.specs.declared.keys.KeyNames.{KeyNames}
use Rattle.table_schema.specs.declared.schema.Schema.{Schema}
use Rattle.table_schema.specs.declared.fault.SchemaFault.{SchemaFault}
use Rattle.table_schema.specs.declared.fault.SchemaFault.TheVariants.{BadDefinition, DefinitionMismatch}
use Rattle.table_schema.specs.Index.{stated_of}
use Rattle.table_schema.specs.Kind.{kind_of}
use Rattle.table_request.specs.declared.tables.TableUpdate.{TableUpdate}
use Rattle.table_request.specs.declared.tables.IndexChange.{IndexChange}
use Rattle.table_request.specs.declared.tables.IndexChange.TheVariants.{Make, Remove}
use Rattle.table_model.specs.Catalog.{most_tables, made_at, has_bad_definition, has_index, ttl_fault, updated_schema}
use Rattle.table_model.specs.declared.refusal.TtlFault.{TtlFault}
use Rattle.table_model.specs.Pages.{global_named}
use Rattle.txn_core.specs.declared.ruling.Ruling.{Ruling}
use Rattle.txn_core.specs.declared.ruling.Ruling.TheVariants.{Carries, Refuses}
use Rattle.cell_model.specs.declared.catalog.Catalog.{Catalog}
use Rattle.cell_model.specs.declared.catalog.CatalogTable.{CatalogTable}
use Rattle.cell_model.specs.declared.command.CatalogCommand.{CatalogCommand}
use Rattle.cell_model.specs.declared.command.CatalogCommand.TheVariants.{Create, Drop, Change, TimeToLive}
use Rattle.cell_model.specs.declared.answer.CatalogAnswer.{CatalogAnswer}
use Rattle.cell_model.specs.declared.answer.CatalogAnswer.TheVariants as answer
use Rattle.cell_model.specs.Catalogs.{named, entered, numbered_indexes, last_drawn}
use Rattle.cell_model.specs.FirstFault.{first_fault}

-- ---- which table a command is on

abbrev pub number_named : List CatalogTable → List ℕ → Option ℕ
number_named tables name = option_map (λ table. table.number) (named tables name)

-- the number of the table that a command drops or changes
abbrev pub subject : CatalogCommand → Catalog → Option ℕ
subject (Create schema) catalog = None
subject (Drop name) catalog = number_named catalog.tables name
subject (Change name change) catalog = number_named catalog.tables name
subject (TimeToLive name attribute enabled) catalog = number_named catalog.tables name

-- and of the one of which no item may be held: a time to live is no matter of what transactions hold
abbrev pub waits_for : CatalogCommand → Catalog → Option ℕ
waits_for (Create schema) catalog = None
waits_for (Drop name) catalog = number_named catalog.tables name
waits_for (Change name change) catalog = number_named catalog.tables name
waits_for (TimeToLive name attribute enabled) catalog = None

abbrev pub is_number : Option ℕ → ℕ → Bool
is_number None other = false
is_number (Some number) other = nat_eq number other

-- a name that is there already, or that is not there
abbrev pub refusal : CatalogCommand → Catalog → Option CatalogAnswer
refusal (Create schema) catalog = if is_some (named catalog.tables schema.name) then Some answer.Exists else None
refusal (Drop name) catalog = if is_some (named catalog.tables name) then None else Some answer.NoTable
refusal (Change name change) catalog = if is_some (named catalog.tables name) then None else Some answer.NoTable
refusal (TimeToLive name attribute enabled) catalog = if is_some (named catalog.tables name) then None else Some answer.NoTable

-- ---- a table that is changed

abbrev pub has_sort_kind : Schema → Option (List ℕ) → Bool
has_sort_kind schema None = true
has_sort_kind schema (Some name) = is_some (kind_of name schema.definitions)

-- the attributes of a key have types
abbrev pub has_kinds : Schema → KeyNames → Bool
has_kinds schema keys = is_some (kind_of keys.partition schema.definitions) && has_sort_kind schema keys.sort

-- the attributes of the keys of all indexes have types, as in every table that was made
abbrev pub is_typed : Schema → Bool
is_typed schema =
    list_all (λ index. has_kinds schema index.keys) schema.locals && list_all (λ index. has_kinds schema index.keys) schema.globals

-- the numbers of a table's global indexes after one is made, which has the next number, or dropped
abbrev pub numbers_after : Option IndexChange → ℕ → List (ℕ × GlobalIndex) → List ℕ
numbers_after None drawn entries = map (λ entry. entry.0) entries
numbers_after (Some (Make index)) drawn entries = map (λ entry. entry.0) entries ++ (drawn + 1) ∷ []
numbers_after (Some (Remove name)) drawn entries =
    map (λ entry. entry.0) (filter (λ entry. not (bytes_eq entry.1.name name)) entries)

-- the table after an update; one whose keys have no types stays as it is
abbrev pub updated_table : TableUpdate → ℕ → CatalogTable → CatalogTable
updated_table update drawn table =
    if is_typed table.schema then
    (record {
      number = table.number;
      schema = updated_schema table.schema update;
      indexes = numbers_after update.index drawn (numbered_indexes table);
    }) else table

-- the schema with a time to live, or without one; the table with it
abbrev pub expiring : Schema → List ℕ → Bool → Schema
expiring schema attribute enabled = record schema { ttl = if enabled then Some attribute else None }

abbrev pub expiring_table : List ℕ → Bool → CatalogTable → CatalogTable
expiring_table attribute enabled table = record table { schema = expiring table.schema attribute enabled }

-- what becomes of the table that a command is on
abbrev pub changed_table : CatalogCommand → ℕ → CatalogTable → Option CatalogTable
changed_table (Create schema) drawn table = Some table
changed_table (Drop name) drawn table = None
changed_table (Change name update) drawn table = Some (updated_table update drawn table)
changed_table (TimeToLive name attribute enabled) drawn table = Some (expiring_table attribute enabled table)

-- ---- the catalog after a command

-- a new table has the next number, and its global indexes those behind it
abbrev pub new_table : Schema → ℕ → ℕ → CatalogTable
new_table schema moment drawn = record {
  number = drawn + 1;
  schema = made_at moment schema;
  indexes = range_with_len (drawn + 2) (length schema.globals);
}

abbrev pub with_new : CatalogCommand → ℕ → ℕ → List CatalogTable → List CatalogTable
with_new (Create schema) moment drawn tables = entered (new_table schema moment drawn) tables
with_new _ moment drawn tables = tables

-- how many numbers a command draws: one for a table, and one for each global index
abbrev pub draws_for : Option IndexChange → ℕ
draws_for (Some (Make index)) = 1
draws_for _ = 0

abbrev pub draws : CatalogCommand → ℕ
draws (Create schema) = 1 + length schema.globals
draws (Drop name) = 0
draws (Change name update) = draws_for update.index
draws (TimeToLive name attribute enabled) = 0

-- a table as the command leaves it
abbrev pub kept : CatalogCommand → Option ℕ → ℕ → CatalogTable → Option CatalogTable
kept command on drawn table = if is_number on table.number then changed_table command drawn table else Some table

-- the catalog after a command that is carried out at a moment
abbrev pub catalog_after : CatalogCommand → ℕ → Catalog → Catalog
catalog_after command moment catalog =
    let drawn = last_drawn catalog in
    record {
      drawn = drawn + draws command;
      tables = with_new command moment drawn (filter_map (kept command (subject command catalog) drawn) catalog.tables);
    }

-- ---- what is told

-- an index that goes is not there, or one that comes is
abbrev pub index_fault : Schema → Option IndexChange → Option CatalogAnswer
index_fault schema None = None
index_fault schema (Some (Remove name)) = if is_some (global_named name schema.globals) then None else Some answer.NoIndex
index_fault schema (Some (Make index)) = if has_index schema index.name then Some answer.IndexExists else None

-- refused by the first fault of the schema that a table would have, or carried out, which tells this
abbrev pub judged : CatalogAnswer → Option SchemaFault → Ruling CatalogAnswer
judged told None = Carries told
judged told (Some fault) = Refuses (answer.BadSchema fault)

abbrev pub unless : Option CatalogAnswer → Ruling CatalogAnswer → Ruling CatalogAnswer
unless (Some fault) ruling = Refuses fault
unless None ruling = ruling

-- an update of a table: first its index, then its definitions, then the schema that it states
abbrev pub typed_ruling : TableUpdate → CatalogTable → Ruling CatalogAnswer
typed_ruling update table =
    let schema = updated_schema table.schema update in
    unless (index_fault table.schema update.index)
    (if has_bad_definition table.schema.definitions update.definitions then Refuses (answer.BadSchema BadDefinition)
    else judged (answer.Changed schema) (first_fault (stated_of schema)))

-- a table whose keys have no types can't be changed
abbrev pub update_ruling : TableUpdate → CatalogTable → Ruling CatalogAnswer
update_ruling update table =
    if is_typed table.schema then typed_ruling update table else Refuses (answer.BadSchema DefinitionMismatch)

abbrev pub drop_ruling : Option CatalogTable → Ruling CatalogAnswer
drop_ruling None = Refuses answer.NoTable
drop_ruling (Some table) = Carries (answer.Dropped table.schema)

abbrev pub change_ruling : TableUpdate → Option CatalogTable → Ruling CatalogAnswer
change_ruling update None = Refuses answer.NoTable
change_ruling update (Some table) = update_ruling update table

abbrev pub ttl_judged : Schema → Option TtlFault → Ruling CatalogAnswer
ttl_judged schema None = Carries (answer.Changed schema)
ttl_judged schema (Some fault) = Refuses (answer.TtlRefused fault)

abbrev pub ttl_ruling : List ℕ → Bool → Option CatalogTable → Ruling CatalogAnswer
ttl_ruling attribute enabled None = Refuses answer.NoTable
ttl_ruling attribute enabled (Some table) =
    ttl_judged (expiring table.schema attribute enabled) (ttl_fault table.schema.ttl attribute enabled)

-- a new table has the next number, where there is room for one and its schema breaks no rule
abbrev pub create_ruling : Schema → Catalog → Ruling CatalogAnswer
create_ruling schema catalog =
    if nat_le most_tables (length catalog.tables) then Refuses answer.Full
    else judged (answer.Made (last_drawn catalog + 1)) (first_fault (stated_of schema))

-- what becomes of a command that no name and no pending stands in the way of
abbrev pub ruling : CatalogCommand → Catalog → Ruling CatalogAnswer
ruling (Create schema) catalog = create_ruling schema catalog
ruling (Drop name) catalog = drop_ruling (named catalog.tables name)
ruling (Change name update) catalog = change_ruling update (named catalog.tables name)
ruling (TimeToLive name attribute enabled) catalog = ttl_ruling attribute enabled (named catalog.tables name)
