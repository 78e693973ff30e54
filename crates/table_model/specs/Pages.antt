-- Pages of rows (API Reference: Query, Scan; Developer Guide: Querying tables, Scanning tables).
use Rattle.std.specs.Prelude.{◌≡◌, ℕ, ◌+◌, ◌*◌, ◌^◌, List, [], ◌∷◌, map, sum_by, filter, take, length, nat_le, nat_lt, Bool, true, false, not, ◌&&◌, ◌||◌}
use Rattle.std.specs.Prelude.{if◌then◌else◌, bytes_eq, Option, None, Some, option_map, Result, Ok, Err}
use Rattle.std.specs.List.{list_any}
use Rattle.std.specs.Ordering.{is_eq}
use Rattle.attr_value.specs.Tree.{Attributes, no_attributes, attribute}
use Rattle.attr_value.specs.Sizes.{item_size}
use Rattle.base_types.specs.declared.path.Step.{Step}
use Rattle.base_types.specs.declared.path.Step.TheVariants.{Name}
use Rattle.base_types.specs.declared.path.DocPath.{DocPath}
use Rattle.expr_words.specs.declared.tree.Condition.{Condition}
use Rattle.expr_words.specs.declared.tree.Paths.{Paths}
use Rattle.expr_words.specs.Trees.{tree}
use Rattle.expr_words.specs.Mentions.{Mention, AtPath, mentions}
use Rattle.condition_eval.specs.Truth.{true_of}
use Rattle.key_condition.specs.Range.{range_of}
use Rattle.key_condition.specs.declared.fault.RangeFault.{RangeFault}
use Rattle.key_condition.specs.declared.key_range.KeyRange.{KeyRange}
use Rattle.item_keys.specs.Order.{value_order}
use Rattle.item_keys.specs.declared.fault.KeyFault.{KeyFault}
use Rattle.item_keys.specs.declared.key.Key.{Key}
use Rattle.item_keys.specs.ItemKey.{key_in}
use Rattle.item_keys.specs.Row.{only, is_kept}
use Rattle.table_schema.specs.KeyName.{is_key_name}
use Rattle.table_schema.specs.declared.keys.KeyNames.{KeyNames}
use Rattle.table_schema.specs.declared.index.Projection.{Projection}
use Rattle.table_schema.specs.declared.index.Projection.TheVariants as projection
use Rattle.table_schema.specs.declared.index.LocalIndex.{LocalIndex}
use Rattle.table_schema.specs.declared.index.GlobalIndex.{GlobalIndex}
use Rattle.table_schema.specs.declared.schema.Schema.{Schema}
use Rattle.paging.specs.declared.page.Judged.{Judged}
use Rattle.paging.specs.Page.{IsPage, is_full}
use Rattle.paging.specs.Rows.{rows_after}
use Rattle.capacity.specs.Units.{counted, read_halves}
use Rattle.table_request.specs.declared.consumed.Consumed.{Consumed}
use Rattle.table_request.specs.declared.pages.Select.{Select}
use Rattle.table_request.specs.declared.pages.Select.TheVariants as select
use Rattle.table_request.specs.declared.pages.PageRequest.{PageRequest}
use Rattle.table_request.specs.declared.pages.Query.{Query}
use Rattle.table_request.specs.declared.pages.Scan.{Scan}
use Rattle.table_request.specs.declared.pages.Segment.{Segment}
use Rattle.table_model.specs.declared.reply.Page.{Page}
use Rattle.table_model.specs.declared.reply.Reply.{Reply}
use Rattle.table_model.specs.declared.reply.Reply.TheVariants as answer
use Rattle.table_model.specs.declared.refusal.Refusal.{Refusal}
use Rattle.table_model.specs.declared.refusal.Refusal.TheVariants.{Invalid, NoTable}
use Rattle.table_model.specs.declared.refusal.Invalid.TheVariants as invalid
use Rattle.row_keys.specs.declared.position.Position.{Position}
use Rattle.row_keys.specs.Keys.{row_key, position_order}
use Rattle.row_keys.specs.Rows.{Entries, position, table_entries, local_entries, global_entries}
use Rattle.table_model.specs.Outcome.{is_met}
use Rattle.table_model.specs.Reads.{view}
use Rattle.table_model.specs.Database.{Database, Table, table_named, first, where_true}
use Rattle.table_model.specs.Consumed.{where_asked, read_mode, used_of}

-- ---- what is read

-- a table, or one of its indexes
pub data Source : Type 0 where
  whole_table : Source
  local_index : LocalIndex → Source
  global_index : GlobalIndex → Source

abbrev pub local_named : List ℕ → List LocalIndex → Option LocalIndex
local_named name [] = None
local_named name (index ∷ others) = if bytes_eq index.name name then Some index else local_named name others

abbrev pub global_named : List ℕ → List GlobalIndex → Option GlobalIndex
global_named name [] = None
global_named name (index ∷ others) = if bytes_eq index.name name then Some index else global_named name others

abbrev pub global_source : Option GlobalIndex → Option Source
global_source index = option_map global_index index

abbrev pub index_source : Option LocalIndex → Option GlobalIndex → Option Source
index_source (Some index) other = Some (local_index index)
index_source None other = global_source other

-- what a request reads, where it is there
abbrev pub source_of : Schema → Option (List ℕ) → Option Source
source_of schema None = Some whole_table
source_of schema (Some name) = index_source (local_named name schema.locals) (global_named name schema.globals)

-- the names of the key of what is read
abbrev pub source_keys : Schema → Source → KeyNames
source_keys schema whole_table = schema.keys
source_keys schema (local_index index) = index.keys
source_keys schema (global_index index) = index.keys

-- its rows, in the order of their keys
abbrev pub source_entries : Table → Source → Entries
source_entries table whole_table = table_entries table.rows
source_entries table (local_index index) = local_entries table.schema index table.rows
source_entries table (global_index index) = global_entries table.schema index table.rows

-- ---- what is refused

abbrev pub is_global : Source → Bool
is_global (global_index index) = true
is_global source = false

abbrev pub has_all : Projection → Bool
has_all projection.All = true
has_all other = false

abbrev pub asks_all : Option Select → Bool
asks_all (Some select.AllAttributes) = true
asks_all other = false

-- all attributes are asked of a global index that does not keep them
abbrev pub lacks_all : Option Select → Source → Bool
lacks_all select (global_index index) = asks_all select && not (has_all index.projection)
lacks_all select source = false

-- the attribute that a path begins with; a path begins with a name
abbrev pub root_of : List Step → List ℕ
root_of (Name name ∷ steps) = name
root_of other = []

abbrev pub is_rooted : List ℕ → Mention → Bool
is_rooted name (AtPath path) = bytes_eq (root_of path.steps) name
is_rooted name other = false

-- the condition has a path at or below the attribute
abbrev pub names_attribute : Option Condition → List ℕ → Bool
names_attribute None name = false
names_attribute (Some condition) name = list_any (is_rooted name) (mentions (tree condition))

abbrev pub named_sort : Option Condition → Option (List ℕ) → Option (List ℕ)
named_sort filter None = None
named_sort filter (Some name) = if names_attribute filter name then Some name else None

-- the key attribute that a filter names, the partition key first
abbrev pub named_key : Option Condition → KeyNames → Option (List ℕ)
named_key filter keys = if names_attribute filter keys.partition then Some keys.partition else named_sort filter keys.sort

-- the first path at an attribute that the index does not keep
abbrev pub first_unkept : Schema → GlobalIndex → List DocPath → Option (List ℕ)
first_unkept schema index [] = None
first_unkept schema index (path ∷ paths) =
    if is_kept schema index (root_of path.steps) then first_unkept schema index paths else Some (root_of path.steps)

abbrev pub unprojected : Schema → Source → Option Paths → Option (List ℕ)
unprojected schema (global_index index) (Some paths) = first_unkept schema index paths.paths
unprojected schema source paths = None

-- the first refusal of what a Query or a Scan states of its source, but for its key condition and its start
abbrev pub reading_refusal : PageRequest → Source → Option Refusal
reading_refusal r source =
    first
    (where_true (r.consistent && is_global source) (Invalid invalid.ConsistentIndexRead)
    ∷ where_true (lacks_all r.select source) (Invalid invalid.Select) ∷ [])

abbrev pub projection_refusal : Schema → PageRequest → Source → Option Refusal
projection_refusal schema r source =
    option_map (λ name. Invalid (invalid.NotProjected name)) (unprojected schema source r.projection)

-- ---- where a page begins

-- the attribute is of the key of what is read, or of the table's key
abbrev pub is_start_name : Schema → Source → List ℕ → Bool
is_start_name schema source name = is_key_name (source_keys schema source) name || is_key_name schema.keys name

abbrev pub all_names : (List ℕ → Bool) → Attributes → Bool
all_names passes no_attributes = true
all_names passes (attribute name value rest) = passes name && all_names passes rest

abbrev pub position_from : Result Key KeyFault → Result Key KeyFault → Option Position
position_from (Ok read) (Ok item) = Some (position (row_key read) (row_key item))
position_from read item = None

-- the position that a start key is: it has both keys and nothing else
abbrev pub start_position : Schema → Source → Attributes → Option Position
start_position schema source start =
    if all_names (is_start_name schema source) start
    then position_from (key_in schema (source_keys schema source) start) (key_in schema schema.keys start)
    else None

-- the position that a request states, where it is one of those that may be read
abbrev pub start_if : (Position → Bool) → Option Position → Result (Option Position) Refusal
start_if may None = Err (Invalid invalid.StartKey)
start_if may (Some at) = if may at then Ok (Some at) else Err (Invalid invalid.StartKey)

abbrev pub start_of : Schema → Source → (Position → Bool) → Option Attributes → Result (Option Position) Refusal
start_of schema source may None = Ok None
start_of schema source may (Some start) = start_if may (start_position schema source start)

-- ---- the page

-- a row as a page sees it
abbrev pub judged : PageRequest → Attributes → Judged
judged r item = record { size = item_size item; passes = is_met r.filter r.values (Some item) }

-- a local index with the fields of a global one
abbrev pub as_global : LocalIndex → GlobalIndex
as_global index = record { name = index.name; keys = index.keys; projection = index.projection }

-- what a row of the source shows where no projection is stated
abbrev pub default_view : Schema → Source → Option Select → Attributes → Attributes
default_view schema (local_index index) (Some select.AllAttributes) item = item
default_view schema (local_index index) select item = only (is_kept schema (as_global index)) item
default_view schema source select item = item

abbrev pub view_if : Schema → Source → Option Select → Option Paths → Attributes → Attributes
view_if schema source select (Some paths) item = view (Some paths) item
view_if schema source select None item = default_view schema source select item

abbrev pub row_view : Schema → Source → PageRequest → Attributes → Attributes
row_view schema source r item = view_if schema source r.select r.projection item

abbrev pub counts_alone : Option Select → Bool
counts_alone (Some select.Count) = true
counts_alone other = false

-- the rows that are shown
abbrev pub shown_rows : PageRequest → Entries → Entries
shown_rows r entries = filter (λ entry. is_met r.filter r.values (Some entry.1)) entries

abbrev pub page_items : Schema → Source → PageRequest → Entries → Option (List Attributes)
page_items schema source r entries =
    if counts_alone r.select then None else Some (map (λ entry. row_view schema source r entry.1) (shown_rows r entries))

-- the last of some entries
abbrev pub last_of : Entries → Option Attributes
last_of [] = None
last_of (entry ∷ []) = Some entry.1
last_of (entry ∷ (other ∷ others)) = last_of (other ∷ others)

-- the key of the last row, where the page is full
abbrev pub page_last : Schema → Source → PageRequest → Entries → Option Attributes
page_last schema source r entries =
    if is_full r.limit (map (λ entry. judged r entry.1) entries)
    then option_map (only (is_start_name schema source)) (last_of entries) else None

-- what is told of the rows of a page
abbrev pub page_of : Schema → Source → PageRequest → Entries → Page
page_of schema source r entries = record {
  count = length (shown_rows r entries);
  scanned = length entries;
  items = page_items schema source r entries;
  last = page_last schema source r entries;
}

-- the bytes of the rows of a page, whether they pass the filter or not
abbrev pub bytes_read : Entries → ℕ
bytes_read entries = counted (sum_by (λ entry. item_size entry.1) entries)

-- what a page of so many bytes uses
abbrev pub used_by_page : PageRequest → ℕ → Option Consumed
used_by_page r bytes = where_asked r.capacity (used_of r.table (read_halves (read_mode r.consistent) bytes))

-- what is answered by the page of these rows
abbrev pub told_page : Schema → Source → PageRequest → Entries → Reply
told_page schema source r entries = answer.Page (page_of schema source r entries) (used_by_page r (bytes_read entries))

-- the reply is the page of these rows, which are met in this direction from behind a position on
pub record IsPageOf (schema : Schema) (source : Source) (r : PageRequest) (forward : Bool) (start : Option Position)
    (entries : Entries) (reply : Reply) : Type 0 where
  pub count : ℕ
  pub is_page : IsPage r.limit (map (λ entry. judged r entry.1) (rows_after position_order forward start entries)) count
  pub reply_is : reply ≡ told_page schema source r (take count (rows_after position_order forward start entries))

-- ---- Query

-- the position has the partition key that is asked
abbrev pub is_in_partition : KeyRange → Position → Bool
is_in_partition range at = is_eq (value_order at.read.partition range.partition)

-- the rows for whose keys the key condition is true
abbrev pub queried : Query → Entries → Entries
queried r entries = filter (λ entry. true_of r.page.values entry.1 (tree r.key_condition)) entries

-- ---- Scan

-- the position's place is in the segment
abbrev pub is_in_segment : Option Segment → Position → Bool
is_in_segment None at = true
is_in_segment (Some part) at =
    nat_le (part.segment * 2 ^ 64) (at.read.place * part.total)
    && nat_lt (at.read.place * part.total) ((part.segment + 1) * 2 ^ 64)

abbrev pub scanned : Scan → Entries → Entries
scanned r entries = filter (λ entry. is_in_segment r.segment entry.0) entries

-- ---- what both are answered

-- refused, or answered so
abbrev pub IsRefusedOr : Result (Option Position) Refusal → Reply → (Option Position → Type 0) → Type 0
IsRefusedOr (Err refusal) reply P = reply ≡ answer.Refused refusal
IsRefusedOr (Ok start) reply P = P start

abbrev pub IsUnless : Option Refusal → Reply → Type 0 → Type 0
IsUnless (Some refusal) reply P = reply ≡ answer.Refused refusal
IsUnless None reply P = P

-- a Query of a source, whose key condition has this range
abbrev pub IsQueriedIn : Table → Query → Source → KeyRange → Reply → Type 0
IsQueriedIn table r source range reply =
    IsUnless
    (first
    (option_map (λ name. Invalid (invalid.FilterOfKey name)) (named_key r.page.filter (source_keys table.schema source))
    ∷ projection_refusal table.schema r.page source ∷ []))
    reply
    (IsRefusedOr (start_of table.schema source (is_in_partition range) r.page.start) reply
    (λ start. IsPageOf table.schema source r.page r.forward start (queried r (source_entries table source)) reply))

abbrev pub IsInRange : Table → Query → Source → Result KeyRange RangeFault → Reply → Type 0
IsInRange table r source (Err fault) reply = reply ≡ answer.Refused (Invalid (invalid.KeyCondition fault))
IsInRange table r source (Ok range) reply = IsQueriedIn table r source range reply

abbrev pub IsQueriedFrom : Table → Query → Source → Reply → Type 0
IsQueriedFrom table r source reply =
    IsUnless (reading_refusal r.page source) reply
    (IsInRange table r source (range_of table.schema (source_keys table.schema source) r.page.values (tree r.key_condition)) reply)

abbrev pub IsScannedFrom : Table → Scan → Source → Reply → Type 0
IsScannedFrom table r source reply =
    IsUnless (first (reading_refusal r.page source ∷ projection_refusal table.schema r.page source ∷ [])) reply
    (IsRefusedOr (start_of table.schema source (is_in_segment r.segment) r.page.start) reply
    (λ start. IsPageOf table.schema source r.page true start (scanned r (source_entries table source)) reply))

abbrev pub IsFrom : Option (List ℕ) → Option Source → Reply → (Source → Type 0) → Type 0
IsFrom index (Some source) reply P = P source
IsFrom (Some name) None reply P = reply ≡ answer.Refused (Invalid (invalid.UnknownIndex name))
IsFrom None None reply P = P whole_table

abbrev pub IsInTable : List ℕ → Option Table → Reply → (Table → Type 0) → Type 0
IsInTable name None reply P = reply ≡ answer.Refused (NoTable name)
IsInTable name (Some table) reply P = P table

-- what a Query is answered
abbrev pub IsQuery : Database → Query → Reply → Type 0
IsQuery db r reply =
    IsInTable r.page.table (table_named db r.page.table) reply
    (λ table. IsFrom r.page.index (source_of table.schema r.page.index) reply (λ source. IsQueriedFrom table r source reply))

-- what a Scan is answered
abbrev pub IsScan : Database → Scan → Reply → Type 0
IsScan db r reply =
    IsInTable r.page.table (table_named db r.page.table) reply
    (λ table. IsFrom r.page.index (source_of table.schema r.page.index) reply (λ source. IsScannedFrom table r source reply))
