-- What the calls inside say: where a page begins, or why it is refused; what is gathered from cell to cell; what is told of it.
use Rattle.std.specs.Prelude.{◌≡◌, ◌⊎◌, ℕ, suc, ◌+◌, ◌-◌, ◌^◌, ◌<◌, Bool, true, false, List, ◌++◌, map, reverse, Option, None, Some, Result, Ok, Err}
use Rattle.turnstile.specs.Passes.{PassView}
use Rattle.txn_core.specs.declared.message.Message.{Message}
use Rattle.txn_core.specs.declared.answer.Answer.{Answer}
use Rattle.row_keys.specs.declared.position.Position.{Position}
use Rattle.row_keys.specs.Rows.{Entries}
use Rattle.table_schema.specs.declared.schema.Schema.{Schema}
use Rattle.table_request.specs.declared.pages.PageRequest.{PageRequest}
use Rattle.table_request.specs.declared.pages.Query.{Query}
use Rattle.table_request.specs.declared.pages.Scan.{Scan}
use Rattle.table_model.specs.declared.reply.Reply.{Reply}
use Rattle.table_model.specs.declared.reply.Reply.TheVariants as answer
use Rattle.table_model.specs.declared.refusal.Refusal.TheVariants as refusal
use Rattle.table_model.specs.declared.refusal.Invalid.{Invalid}
use Rattle.table_model.specs.declared.refusal.Invalid.TheVariants as invalid
use Rattle.table_model.specs.Pages.{Source, source_of, used_by_page}
use Rattle.page_reads.specs.declared.queries.QueryStart.{QueryStart}
use Rattle.page_reads.specs.Filled.{filled_as}
use Rattle.page_reads.specs.Starts.{HasRange, query_start, scan_start}
use Rattle.cell_pages.specs.Asked.{entry_of}
use Rattle.cell_model.specs.declared.answer.TableLook.{TableLook}
use Rattle.cell_model.specs.declared.answer.Part.{Part}
use Rattle.cell_model.specs.declared.answer.PageRow.{PageRow}
use Rattle.cell_model.specs.declared.answer.CatalogAnswer.TheVariants as told
use Rattle.cell_model.specs.declared.question.PageRoom.{PageRoom}
use Rattle.cell_model.specs.declared.question.PageQuestion.{PageQuestion}
use Rattle.cell_model.specs.declared.question.CatalogQuestion.TheVariants.{Page}
use Rattle.cell_model.specs.Parts.{AreParts, PagePart, has_ended, next_page, rows_told}
use Rattle.table_history.specs.Entries.{TableEvent}
use Rattle.cell_asks.specs.declared.tried.Tried.{Tried}
use Rattle.cell_asks.specs.Steps.{One, IsInVain}
use Rattle.cell_asks.specs.Told.{WasTold}
use Rattle.page_calls.specs.declared.asked.Asked.{Asked}
use Rattle.page_calls.specs.declared.begin.Beginning.{Beginning}
use Rattle.page_calls.specs.declared.gather.Gathered.{Gathered}
use Rattle.page_calls.specs.declared.gather.Turn.{Turn}
use Rattle.page_calls.specs.declared.read.Read.{Read}
use Rattle.page_calls.specs.Asked.{PageAsked, a_scan, a_query, page_asked, Begins, BeginsQuery, BeginsScan}
use Rattle.page_calls.specs.Pages.{AreOwnParts, ReadsPage}

abbrev pub asked_of : Asked → PageAsked
asked_of (Asked.Scan request) = a_scan request.now
asked_of (Asked.Query request) = a_query request.now

-- ---- where a page begins

-- its cells have numbers, also the one behind the last
abbrev pub IsWithin : Beginning → Type 0
IsWithin begun = begun.first.cell + begun.behind < 2 ^ 32 - 1

abbrev pub ScanBegins : ℕ → TableLook → Scan → Source → Option Position → Beginning → Type 0
ScanBegins n look r source start begun = scan_start look.schema r source ≡ Ok start → BeginsScan n look r source begun.first begun.behind

abbrev pub QueryBegins : ℕ → TableLook → Query → Source → QueryStart → Beginning → Type 0
QueryBegins n look r source start begun =
    query_start look.schema r source ≡ Ok start → HasRange look.schema r source start.range → BeginsQuery n look r source begun.first begun.behind

-- this refuses a request for a page of a source
abbrev pub IsRefusedAt : Schema → PageAsked → Source → Invalid → Type 0
IsRefusedAt schema (a_scan r) source why = scan_start schema r source ≡ Err (refusal.Invalid why)
IsRefusedAt schema (a_query r) source why = query_start schema r source ≡ Err (refusal.Invalid why)

abbrev pub BeginsOr : ℕ → TableLook → PageAsked → Source → Result Beginning Invalid → Type 0
BeginsOr n look asked source (Ok begun) = Begins n look asked source begun.first begun.behind
BeginsOr n look asked source (Err why) = IsRefusedAt look.schema asked source why

-- the index is not there
abbrev pub IsUnknown : Schema → Option (List ℕ) → Invalid → Type 0
IsUnknown schema None why = ⊥
IsUnknown schema (Some name) why = (source_of schema (Some name) ≡ None) × (why ≡ invalid.UnknownIndex name)

-- this refuses a request by the schema of its table
abbrev pub IsRefusedBy : Schema → PageAsked → Invalid → Type 0
IsRefusedBy schema asked why =
    IsUnknown schema (page_asked asked).index why
    ⊎ ((source : Source) × (source_of schema (page_asked asked).index ≡ Some source) × IsRefusedAt schema asked source why)

-- ---- from cell to cell

-- what becomes of the next cell's page by the part that was told
abbrev pub turn_if : PageQuestion → PageRoom → Bool → Turn
turn_if next room true = Turn.Ended
turn_if next room false = Turn.GoesOn (record {
  cell = next.cell;
  table = next.table;
  source = next.source;
  span = next.span;
  forward = next.forward;
  after = next.after;
  room = room;
})

abbrev pub turn_of : PageQuestion → Part → Turn
turn_of next part = turn_if next part.room part.stopped

module _ (n : ℕ) (p : PassView TableEvent) (page : PageQuestion) (old new : List PageRow) (q : PassView TableEvent) where
  -- an own ScanPage was told rows, which are added, and whether the page has ended
  pub record TellsRows (room : PageRoom) (stopped : Bool) : Type 0 where
    pub rows : List PageRow
    pub one : One n p (Message.ScanPage (Page page)) (Answer.Part (told.Part rows room stopped)) q
    pub added : new ≡ old ++ rows

  abbrev pub TurnsTo : Turn → Type 0
  TurnsTo Turn.Gone = IsInVain n p q
  TurnsTo Turn.Ended = (room : PageRoom) × TellsRows room true
  TurnsTo (Turn.GoesOn next) = (room : PageRoom) × TellsRows room false × (next ≡ next_page page room)

module _ (n : ℕ) (p : PassView TableEvent) (first : PageQuestion) (behind : ℕ) where
  -- these are the rows of own parts of the page
  pub record IsGathered (gathered : Gathered) (q : PassView TableEvent) : Type 0 where
    pub parts : List PagePart
    pub own : AreOwnParts n p parts q
    pub are : AreParts (suc behind) first parts
    pub rows_are : gathered.rows ≡ rows_told parts
    pub ended_is : gathered.ended ≡ has_ended parts

  -- the table may be gone
  abbrev pub GatheredOrGone : Option Gathered → PassView TableEvent → Type 0
  GatheredOrGone (Some gathered) q = IsGathered gathered q
  GatheredOrGone None q = IsInVain n p q

-- ---- what is told

-- of these rows, told that they fill the page, or that they don't
abbrev pub reply_as : Bool → Schema → Source → PageRequest → Entries → Reply
reply_as full schema source r rows =
    answer.Page (filled_as full schema source r rows).page (used_by_page r (filled_as full schema source r rows).bytes)

abbrev pub reply_of : Schema → Source → PageRequest → Gathered → Reply
reply_of schema source r gathered = reply_as gathered.ended schema source r (map entry_of gathered.rows)

module _ (n : ℕ) (p : PassView TableEvent) (look : TableLook) (asked : PageAsked) where
  -- what a page of a table comes to that a Look told of
  abbrev pub IsRead : Read → PassView TableEvent → Type 0
  IsRead (Read.Told reply) q = ReadsPage n p look asked reply q
  IsRead (Read.Refused why) q = (q ≡ p) × IsRefusedBy look.schema asked why
  IsRead Read.Gone q = IsInVain n p q

-- ---- a try

-- by a table that is kept
pub record IsKnownRead (n : ℕ) (p : PassView TableEvent) (asked : PageAsked) (read : Read) (q : PassView TableEvent) : Type 0 where
  pub look : TableLook
  pub told : WasTold (reverse p.front) (page_asked asked).table look
  pub is : IsRead n p look asked read q

abbrev pub IsKeptRead : ℕ → PassView TableEvent → PageAsked → Option Read → PassView TableEvent → Type 0
IsKeptRead n p asked None q = q ≡ p
IsKeptRead n p asked (Some read) q = IsKnownRead n p asked read q

abbrev pub tried_read : Read → Tried
tried_read (Read.Told reply) = Tried.Reply reply
tried_read (Read.Refused why) = Tried.Reply (answer.Refused (refusal.Invalid why))
tried_read Read.Gone = Tried.Again
