-- What a call answers is what a Query or a Scan is answered.
use Rattle.std.specs.Prelude.{[], ◌∷◌, option_map, Option, None, Some, Result, Ok, Err}
use Rattle.std.proofs.Common.{◌≡◌, ℕ, Bool, true, List, ap, sym, ◌∙◌, subst, IfSome}
use Rattle.expr_words.specs.Trees.{tree}
use Rattle.key_condition.specs.Range.{range_of}
use Rattle.key_condition.specs.declared.fault.RangeFault.{RangeFault}
use Rattle.key_condition.specs.declared.key_range.KeyRange.{KeyRange}
use Rattle.paging.specs.Rows.{rows_after}
use Rattle.row_keys.specs.declared.position.Position.{Position}
use Rattle.row_keys.specs.Keys.{position_order}
use Rattle.row_keys.specs.Rows.{Entries}
use Rattle.table_schema.specs.declared.schema.Schema.{Schema}
use Rattle.table_request.specs.declared.pages.PageRequest.{PageRequest}
use Rattle.table_request.specs.declared.pages.Query.{Query}
use Rattle.table_request.specs.declared.pages.Scan.{Scan}
use Rattle.table_rows.specs.View.{TableView}
use Rattle.table_model.specs.declared.reply.Reply.{Reply}
use Rattle.table_model.specs.declared.reply.Reply.TheVariants as answer
use Rattle.table_model.specs.declared.refusal.Refusal.{Refusal}
use Rattle.table_model.specs.declared.refusal.Refusal.TheVariants.{Invalid}
use Rattle.table_model.specs.declared.refusal.Invalid.TheVariants as invalid
use Rattle.table_model.specs.Database.{Database, Table, first}
use Rattle.table_model.specs.Pages.{Source, source_of, source_keys, source_entries, named_key, reading_refusal, projection_refusal, start_of, is_in_partition, is_in_segment, queried, scanned, used_by_page, IsPageOf, IsRefusedOr, IsUnless, IsInRange, IsQueriedFrom, IsScannedFrom, IsFrom, IsInTable, IsQuery, IsScan}
use Rattle.table_items.specs.Effects.{HasTable}
use Rattle.page_reads.specs.declared.page.Filled.{Filled}
use Rattle.table_pages.specs.Asked.{IsQueryOf, IsScanOf}
use Rattle.page_reads.specs.Filled.{IsFilled}
use Rattle.page_reads.specs.Starts.{unless_refused, with_range, query_start, query_start_if, query_start_in, scan_start}
use Rattle.page_reads.specs.declared.queries.QueryStart.{QueryStart}

-- ---- refused, or begun

unless : (reply : Reply) (P : Option Position → Type 0) (why : Option Refusal) (next : Result (Option Position) Refusal)
    → IsRefusedOr (unless_refused why next) reply P → IsUnless why reply (IsRefusedOr next reply P)
unless reply P (Some why) next is = is
unless reply P None next is = is

-- a page that is filled with these rows is their page
pub page_is : (schema : Schema) (source : Source) (r : PageRequest) (forward : Bool) (start : Option Position) (entries : Entries) (filled : Filled) (reply : Reply)
    → IsFilled schema source r (rows_after position_order forward start entries) filled
    → reply ≡ answer.Page filled.page (used_by_page r filled.bytes) → IsPageOf schema source r forward start entries reply
page_is schema source r forward start entries filled reply is told = record {
  count = is.count;
  is_page = is.is_page;
  reply_is = told ∙ ap (λ (f : Filled). answer.Page f.page (used_by_page r f.bytes)) is.page_is;
}

-- ---- a Query

-- refused, or answered so by what the Query reads
abbrev pub IsBegunOr : Result QueryStart Refusal → Reply → (Option Position → Type 0) → Type 0
IsBegunOr (Err why) reply P = reply ≡ answer.Refused why
IsBegunOr (Ok begun) reply P = P begun.start

module _ (table : Table) (r : Query) (source : Source) (reply : Reply) where
  -- the page behind a position
  abbrev pub IsQueried : Option Position → Type 0
  IsQueried start = IsPageOf table.schema source r.page r.forward start (queried r (source_entries table source)) reply

  ranged : (range : KeyRange) (start : Result (Option Position) Refusal) → IsBegunOr (with_range range start) reply IsQueried
      → IsRefusedOr start reply IsQueried
  ranged range (Ok start) is = is
  ranged range (Err why) is = is

  in_range : (found : Result KeyRange RangeFault) → IsBegunOr (query_start_if table.schema r source found) reply IsQueried
      → IsInRange table r source found reply
  in_range (Err fault) is = is
  in_range (Ok range) is =
      unless reply IsQueried
      (first
      (option_map (λ name. Invalid (invalid.FilterOfKey name)) (named_key r.page.filter (source_keys table.schema source))
      ∷ projection_refusal table.schema r.page source ∷ []))
      (start_of table.schema source (is_in_partition range) r.page.start)
      (ranged range (query_start_in table.schema r source range) is)

  unless_begun : (why : Option Refusal) (found : Result KeyRange RangeFault)
      → IsBegunOr (unless_refused why (query_start_if table.schema r source found)) reply IsQueried
      → IsUnless why reply (IsInRange table r source found reply)
  unless_begun (Some why) found is = is
  unless_begun None found is = in_range found is

  -- what a Query is answered that begins so, or is refused
  pub query_begun : (begun : Result QueryStart Refusal) → begun ≡ query_start table.schema r source → IsBegunOr begun reply IsQueried
      → IsQueriedFrom table r source reply
  query_begun begun is told =
      unless_begun (reading_refusal r.page source) (range_of table.schema (source_keys table.schema source) r.page.values (tree r.key_condition))
      (subst (λ found. IsBegunOr found reply IsQueried) is told)

-- ---- a Scan

module _ (table : Table) (r : Scan) (source : Source) (reply : Reply) where
  -- the page behind a position
  abbrev pub IsScanned : Option Position → Type 0
  IsScanned start = IsPageOf table.schema source r.page true start (scanned r (source_entries table source)) reply

  -- what a Scan is answered that begins so, or is refused
  pub scan_begun : (begun : Result (Option Position) Refusal) → begun ≡ scan_start table.schema r source → IsRefusedOr begun reply IsScanned
      → IsScannedFrom table r source reply
  scan_begun begun is told =
      unless reply IsScanned (first (reading_refusal r.page source ∷ projection_refusal table.schema r.page source ∷ []))
      (start_of table.schema source (is_in_segment r.segment) r.page.start)
      (subst (λ found. IsRefusedOr found reply IsScanned) is told)

-- ---- what is read

module _ (schema : Schema) (reply : Reply) (P : Source → Type 0) where
  pub from_source : (index : Option (List ℕ)) (source : Source) → Some source ≡ source_of schema index → P source → IsFrom index (source_of schema index) reply P
  from_source index source is p = subst (λ found. IsFrom index found reply P) is p

  pub from_none : (index : Option (List ℕ)) → None ≡ source_of schema index → IfSome index (λ name. reply ≡ answer.Refused (Invalid (invalid.UnknownIndex name)))
      → IsFrom index (source_of schema index) reply P
  from_none None is told = absurd (cc)
  from_none (Some name) is told = subst (λ found. IsFrom (Some name) found reply P) is told

-- ---- in a database

-- what a Query of a table is answered is what a Query of the database is answered that has the table
pub query_named : (db : Database) (r : Query) (number : ℕ) (kept : TableView) (reply : Reply) → HasTable db r.page.table number kept → IsQueryOf kept r reply
    → IsQuery db r reply
query_named db r number kept reply has is =
    subst (λ found. IsInTable r.page.table found reply
    (λ table. IsFrom r.page.index (source_of table.schema r.page.index) reply (λ source. IsQueriedFrom table r source reply))) (sym has) (is number)

-- the same of a Scan
pub scan_named : (db : Database) (r : Scan) (number : ℕ) (kept : TableView) (reply : Reply) → HasTable db r.page.table number kept → IsScanOf kept r reply
    → IsScan db r reply
scan_named db r number kept reply has is =
    subst (λ found. IsInTable r.page.table found reply
    (λ table. IsFrom r.page.index (source_of table.schema r.page.index) reply (λ source. IsScannedFrom table r source reply))) (sym has) (is number)
