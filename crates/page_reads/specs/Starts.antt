-- Where a page begins, or why a request is refused.
use Rattle.std.specs.Prelude.{◌≡◌, IfOk, ◌<◌, ◌^◌, [], ◌∷◌, Bool, Option, None, Some, option_map, Result, Ok, Err}
use Rattle.std.specs.Ordering.{is_eq}
use Rattle.expr_words.specs.Trees.{tree}
use Rattle.item_keys.specs.Order.{value_order}
use Rattle.key_condition.specs.Law.{HasKeysWhereTrue}
use Rattle.key_condition.specs.Range.{range_of}
use Rattle.key_condition.specs.declared.fault.RangeFault.{RangeFault}
use Rattle.key_condition.specs.declared.key_range.KeyRange.{KeyRange}
use Rattle.row_keys.specs.declared.position.Position.{Position}
use Rattle.page_ranges.specs.declared.span.Span.{Span}
use Rattle.page_ranges.specs.Span.{is_inside}
use Rattle.table_request.specs.declared.pages.Query.{Query}
use Rattle.table_request.specs.declared.pages.Scan.{Scan}
use Rattle.table_request.specs.declared.pages.Segment.{Segment as AnySegment}
use Rattle.table_schema.specs.declared.schema.Schema.{Schema}
use Rattle.table_model.specs.Database.{first}
use Rattle.table_model.specs.declared.refusal.Refusal.{Refusal}
use Rattle.table_model.specs.declared.refusal.Refusal.TheVariants as refusal
use Rattle.table_model.specs.declared.refusal.Invalid.{Invalid as AnyInvalid}
use Rattle.table_model.specs.declared.refusal.Invalid.TheVariants as invalid
use Rattle.table_model.specs.Pages.{Source, source_keys, is_in_partition, is_in_segment, named_key, projection_refusal, reading_refusal, start_of}
use Rattle.page_reads.specs.declared.queries.QueryStart.{QueryStart}
use Rattle.page_reads.specs.declared.start.Start.{Start}
use Rattle.page_reads.specs.declared.start.Start.TheVariants.{First, Behind, Invalid}
use Rattle.page_reads.specs.declared.start.Within.{Within}
use Rattle.page_reads.specs.declared.start.Within.TheVariants.{Partition, Segment}

-- ---- where a page begins, as the code tells it

-- the position is one of those that are read
abbrev pub is_within : Within → Position → Bool
is_within (Partition partition) at = is_eq (value_order at.read.partition partition.now)
is_within (Segment segment) at = is_in_segment segment at

abbrev pub start_as : Start → Result (Option Position) Refusal
start_as First = Ok None
start_as (Behind at) = Ok (Some at)
start_as Invalid = Err (refusal.Invalid invalid.StartKey)

-- ---- refused, or begun

-- the first refusal that there is, or what follows
abbrev pub unless_refused : {A : Type 0} → Option Refusal → Result A Refusal → Result A Refusal
unless_refused (Some why) next = Err why
unless_refused None next = next

-- what is refused does not fit the table
abbrev pub refused_as : {A : Type 0} → Result A AnyInvalid → Result A Refusal
refused_as (Ok found) = Ok found
refused_as (Err why) = Err (refusal.Invalid why)

-- the position behind which a Scan of a source begins, or its first refusal
abbrev pub scan_start : Schema → Scan → Source → Result (Option Position) Refusal
scan_start schema r source =
    unless_refused (first (reading_refusal r.page source ∷ projection_refusal schema r.page source ∷ []))
    (start_of schema source (is_in_segment r.segment) r.page.start)

-- the same of a Query whose key condition has this range
abbrev pub query_start_in : Schema → Query → Source → KeyRange → Result (Option Position) Refusal
query_start_in schema r source range =
    unless_refused
    (first
    (option_map (λ name. refusal.Invalid (invalid.FilterOfKey name)) (named_key r.page.filter (source_keys schema source))
    ∷ projection_refusal schema r.page source ∷ []))
    (start_of schema source (is_in_partition range) r.page.start)

abbrev pub with_range : KeyRange → Result (Option Position) Refusal → Result QueryStart Refusal
with_range range (Ok start) = Ok (record { range = range; start = start })
with_range range (Err why) = Err why

abbrev pub query_start_if : Schema → Query → Source → Result KeyRange RangeFault → Result QueryStart Refusal
query_start_if schema r source (Err fault) = Err (refusal.Invalid (invalid.KeyCondition fault))
query_start_if schema r source (Ok range) = with_range range (query_start_in schema r source range)

-- the range that a Query reads, and the position behind which it begins, or its first refusal
abbrev pub query_start : Schema → Query → Source → Result QueryStart Refusal
query_start schema r source =
    unless_refused (reading_refusal r.page source)
    (query_start_if schema r source (range_of schema (source_keys schema source) r.page.values (tree r.key_condition)))

-- ---- ranges

-- inside are the keys at the places of a segment, or all
abbrev pub HasSegment : Option AnySegment → Span → Type 0
HasSegment segment span =
    (at : Position) → at.read.place < 2 ^ 64 → is_inside span at.read ≡ is_in_segment segment at

-- the range is that of the key condition
abbrev pub HasRange : Schema → Query → Source → KeyRange → Type 0
HasRange schema r source range =
    HasKeysWhereTrue schema (source_keys schema source) r.page.values (tree r.key_condition) range

-- ---- what inner steps say

-- what a Query reads where its key condition has this range, or its first refusal
abbrev pub BeginsIn : Schema → Query → Source → KeyRange → Result QueryStart AnyInvalid → Type 0
BeginsIn schema r source range begun =
    (refused_as begun ≡ with_range range (query_start_in schema r source range)) × IfOk begun (λ at. at.range ≡ range)
