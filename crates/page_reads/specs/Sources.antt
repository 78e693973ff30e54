-- What the code's sources stand for, and what a page sees of a row.
use Rattle.std.specs.Prelude.{◌≡◌, ℕ, ◌-◌, List, length, ⊤, if◌then◌else◌, Option, None, Some, slice_get}
use Rattle.std.specs.List.{list_any}
use Rattle.attr_value.specs.Tree.{Attributes}
use Rattle.expr_words.specs.Mentions.{Mention}
use Rattle.item_keys.specs.Row.{only, is_kept}
use Rattle.table_schema.specs.declared.keys.KeyNames.{KeyNames}
use Rattle.table_schema.specs.declared.schema.Schema.{Schema}
use Rattle.row_keys.specs.Rows.{index_keys}
use Rattle.table_model.specs.Pages as model
use Rattle.table_model.specs.Pages.{whole_table, local_index, global_index, is_rooted}
use Rattle.page_reads.specs.declared.source.Source.{Source}
use Rattle.page_reads.specs.declared.source.Source.TheVariants.{Table, Local, Global}

abbrev pub source_in : Source → model.Source
source_in Table = whole_table
source_in (Local number index) = local_index index.now
source_in (Global number index) = global_index index.now

-- this is the number of the index that is read
abbrev pub IsNumber : Schema → ℕ → Source → Type 0
IsNumber schema number Table = ⊥
IsNumber schema number (Local other index) = slice_get (index_keys schema) number ≡ Some index.now.keys
IsNumber schema number (Global other index) = slice_get (index_keys schema) number ≡ Some index.now.keys

-- an index that is read has the number that is told
abbrev pub HasNumber : Schema → Source → Type 0
HasNumber schema Table = ⊤
HasNumber schema (Local number index) = IsNumber schema number (Local number index)
HasNumber schema (Global number index) = IsNumber schema number (Global number index)

-- it stands at its place among those of its kind: the numbers of global indexes go on behind those of local ones
abbrev pub HasPlace : Schema → Source → Type 0
HasPlace schema Table = ⊤
HasPlace schema (Local number index) = slice_get schema.locals number ≡ Some index.now
HasPlace schema (Global number index) = slice_get schema.globals (number - length schema.locals) ≡ Some index.now

-- what a page sees of an item: of a global index what that keeps
abbrev pub seen : Schema → model.Source → Attributes → Attributes
seen schema (global_index index) item = only (is_kept schema index) item
seen schema source item = item

-- the sort key, where one of these is a path at or below it
abbrev pub sort_named_by : List Mention → Option (List ℕ) → Option (List ℕ)
sort_named_by mentions None = None
sort_named_by mentions (Some name) = if list_any (is_rooted name) mentions then Some name else None

-- the key attribute that one of these is a path at or below of, the partition key first
abbrev pub named_by : List Mention → KeyNames → Option (List ℕ)
named_by mentions keys =
    if list_any (is_rooted keys.partition) mentions then Some keys.partition else sort_named_by mentions keys.sort
