-- What was gathered, as the one page of all rows that were there for it.
use Rattle.std.proofs.Common.{◌≡◌, ℕ, suc, true, List, [], ◌∷◌, None, Some, map, take, refl, ap, ◌∙◌}
use Rattle.turnstile.specs.Passes.{PassView}
use Rattle.paging.specs.Page.{is_full}
use Rattle.row_keys.specs.Rows.{Entries}
use Rattle.table_request.specs.declared.pages.PageRequest.{PageRequest}
use Rattle.table_schema.specs.declared.schema.Schema.{Schema}
use Rattle.table_model.specs.declared.reply.Reply.{Reply}
use Rattle.table_model.specs.Pages.{Source, source_of, judged, IsPageOf}
use Rattle.cell_pages.specs.Asked.{entry_of}
use Rattle.cell_model.specs.declared.answer.TableLook.{TableLook}
use Rattle.cell_model.specs.declared.question.PageQuestion.{PageQuestion}
use Rattle.cell_model.specs.Pages.{page_row}
use Rattle.cell_model.specs.Parts.{AreParts, PagePart, has_ended, judged_by, rows_asked, rows_told, whole_room}
use Rattle.cell_model.proofs.OnePage.{parts_are_one_page}
use Rattle.table_history.specs.Entries.{TableEvent}
use Rattle.page_calls.specs.declared.gather.Gathered.{Gathered}
use Rattle.page_calls.specs.Asked.{PageAsked, a_scan, a_query, page_asked, Begins}
use Rattle.page_calls.specs.Pages.{ReadsPage}
use Rattle.page_calls.specs.Steps.{IsGathered, reply_as, reply_of}

rows_back : (rows : Entries) → map entry_of (map page_row rows) ≡ rows
rows_back [] = refl
rows_back (row ∷ rows) = ap (λ l. row ∷ l) (rows_back rows)

-- what parts told is told as their page
told_is_page : (schema : Schema) (source : Source) (r : PageRequest) (behind : ℕ) (first : PageQuestion) (parts : List PagePart) → first.room ≡ whole_room r.limit
    → AreParts (suc behind) first parts → (gathered : Gathered) → gathered.rows ≡ rows_told parts → gathered.ended ≡ has_ended parts
    → (reply : Reply) → reply ≡ reply_of schema source r gathered → IsPageOf schema source r true None (rows_asked parts) reply
told_is_page schema source r behind first parts room are gathered rows ended reply told =
    let one = parts_are_one_page (judged r) (λ item. refl) r.limit behind first parts room are in
    let taken : Entries = take one.count (rows_asked parts) in
    let same : map entry_of gathered.rows ≡ taken = ap (map entry_of) (rows ∙ one.told_is) ∙ rows_back taken in
    let full : gathered.ended ≡ is_full r.limit (judged_by (judged r) taken) = ended ∙ one.ended_is in
    record {
      count = one.count;
      is_page = one.is_page;
      reply_is = told ∙ (λ i. reply_as (full i) schema source r (same i));
    }

room_is : (n : ℕ) (look : TableLook) (asked : PageAsked) (source : Source) (first : PageQuestion) (behind : ℕ) → Begins n look asked source first behind
    → first.room ≡ whole_room (page_asked asked).limit
room_is n look (a_scan r) source first behind begins = begins.is_first.room
room_is n look (a_query r) source first behind begins = begins.is_first.room

pub reads_page : (n : ℕ) (p : PassView TableEvent) (look : TableLook) (asked : PageAsked) (source : Source) → source_of look.schema (page_asked asked).index ≡ Some source
    → (first : PageQuestion) (behind : ℕ) → Begins n look asked source first behind → (gathered : Gathered) (q : PassView TableEvent) → IsGathered n p first behind gathered q
    → (r : PageRequest) → r ≡ page_asked asked → (reply : Reply) → reply ≡ reply_of look.schema source r gathered → ReadsPage n p look asked reply q
reads_page n p look asked source source_is first behind begins gathered q is r same reply told = record {
  source = source;
  source_is = source_is;
  first = first;
  behind = behind;
  begins = begins;
  parts = is.parts;
  own = is.own;
  are = is.are;
  is =
      told_is_page look.schema source (page_asked asked) behind first is.parts (room_is n look asked source first behind begins) is.are gathered is.rows_are is.ended_is reply
      (told ∙ ap (λ (x : PageRequest). reply_of look.schema source x gathered) same);
}
