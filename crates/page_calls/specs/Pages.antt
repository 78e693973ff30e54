-- What a try of a request for a page comes to (API Reference: Query, Scan).
use Rattle.std.specs.Prelude.{◌≡◌, ◌⊎◌, ℕ, suc, ◌%◌, nat_eq, Bool, true, List, [], ◌∷◌, filter, None, Some, reverse}
use Rattle.attr_value.specs.Tree.{Attributes}
use Rattle.row_keys.specs.declared.position.Position.{Position}
use Rattle.row_keys.specs.Keys.{position_order}
use Rattle.row_keys.specs.Rows.{Entries}
use Rattle.paging.specs.Rows.{rows_after}
use Rattle.page_ranges.specs.Span.{is_inside}
use Rattle.turnstile.specs.Passes.{PassView}
use Rattle.txn_core.specs.declared.message.Message.{Message}
use Rattle.txn_core.specs.declared.answer.Answer.{Answer}
use Rattle.table_model.specs.declared.reply.Reply.{Reply}
use Rattle.table_model.specs.Database.{Database, Table, table_named}
use Rattle.table_model.specs.Pages.{Source, global_index, source_entries, source_of, IsPageOf}
use Rattle.cell_model.specs.declared.answer.TableLook.{TableLook}
use Rattle.cell_model.specs.declared.catalog.CatalogTable.{CatalogTable}
use Rattle.cell_model.specs.declared.question.PageQuestion.{PageQuestion}
use Rattle.cell_model.specs.declared.question.CatalogQuestion.TheVariants.{Page}
use Rattle.cell_model.specs.Catalogs.{numbered}
use Rattle.cell_model.specs.Keys.{cell_at}
use Rattle.cell_model.specs.Pages.{asked_rows}
use Rattle.cell_model.specs.Laws.{part_after}
use Rattle.cell_model.specs.Parts.{AreParts, PagePart, rows_asked}
use Rattle.table_history.specs.Entries.{TableEvent}
use Rattle.table_history.specs.SameTable.{StillHas}
use Rattle.table_history.specs.Standing.{HasShown}
use Rattle.cell_asks.specs.declared.tried.Tried.{Tried}
use Rattle.cell_asks.specs.Steps.{One, past_of, IsInVain}
use Rattle.cell_asks.specs.Told.{Looked, WasTold}
use Rattle.item_calls.specs.Items.{RefusedByLook}
use Rattle.page_calls.specs.Asked.{PageAsked, page_asked, request_of, Begins}

-- ---- parts

-- an own ScanPage was told this part: of the tables and of the cell's rows as they were before its entry
pub record IsOwnPart (n : ℕ) (p : PassView TableEvent) (part : PagePart) (q : PassView TableEvent) : Type 0 where
  pub one : One n p (Message.ScanPage (Page part.question)) (Answer.Part part.told) q
  pub is : part ≡ part_after n (reverse (past_of one)) part.question part.told

-- own ScanPages, one after another, were told these
abbrev pub AreOwnParts : ℕ → PassView TableEvent → List PagePart → PassView TableEvent → Type 0
AreOwnParts n p [] q = q ≡ p
AreOwnParts n p (part ∷ parts) q = (mid : PassView TableEvent) × IsOwnPart n p part mid × AreOwnParts n mid parts q

-- ---- pages

-- own ScanPages read the parts of a page of a table that a Look told of, each asked with the room that the one before left, up to
-- the first with which the page has ended; the reply is the one page of all rows that were there for it, as they were met
pub record ReadsPage (n : ℕ) (p : PassView TableEvent) (look : TableLook) (asked : PageAsked) (reply : Reply) (q : PassView TableEvent) : Type 0 where
  pub source : Source
  pub source_is : source_of look.schema (page_asked asked).index ≡ Some source
  pub first : PageQuestion
  pub behind : ℕ
  pub begins : Begins n look asked source first behind
  pub parts : List PagePart
  pub own : AreOwnParts n p parts q
  pub are : AreParts (suc behind) first parts
  pub is : IsPageOf look.schema source (page_asked asked) true None (rows_asked parts) reply

-- ---- of which rows

-- the entry's item is in this cell
abbrev pub is_in_cell : ℕ → ℕ → Position × Attributes → Bool
is_in_cell n cell entry = nat_eq (cell_at n entry.0.item.place) cell

-- of these entries those that a page is asked for, as it meets them
abbrev pub asked_among : PageQuestion → Entries → Entries
asked_among page entries = rows_after position_order page.forward page.after (filter (λ entry. is_inside page.span entry.0.read) entries)

-- what was there for a part of a page of a table, or of a local index, is what every database has in its cell that has what
-- readers are shown then; of a global index it is what was fed to that
abbrev pub ShowsRows : ℕ → List ℕ → Source → List TableEvent → PagePart → Type 0
ShowsRows n name (global_index index) log part = Unit {0}
ShowsRows n name source log part =
    (db : Database) → HasShown n log db → (table : Table) → table_named db name ≡ Some table
    → asked_rows part.catalog part.question part.rows
    ≡ asked_among part.question (filter (is_in_cell n (part.question.cell % n)) (source_entries table source))

-- at a part's entry the table was there that the Look told of, under its number and its name, and readers were shown these rows
pub record IsPartOf (n : ℕ) (name : List ℕ) (look : TableLook) (source : Source) (log : List TableEvent) (part : PagePart) : Type 0 where
  pub table : CatalogTable
  pub there : numbered part.catalog.tables look.number ≡ Some table
  pub still : StillHas part.catalog name look.schema table
  pub shown : ShowsRows n name source log part

-- so it is of each of these own parts, by what had happened before its entry
abbrev pub AreEach : (n : ℕ) → (List TableEvent → PagePart → Type 0) → (p : PassView TableEvent) (parts : List PagePart) (q : PassView TableEvent)
    → AreOwnParts n p parts q → Type 0
AreEach n So p [] q own = Unit {0}
AreEach n So p (part ∷ parts) q own = So (past_of own.1.one) part × AreEach n So own.0 parts q own.2

module _ (n : ℕ) (p : PassView TableEvent) where
  -- the page of a table that a Look told of, an own one or an earlier one
  pub record Reads (asked : PageAsked) (reply : Reply) (q : PassView TableEvent) : Type 0 where
    pub mid : PassView TableEvent
    pub looked : Looked n p (page_asked asked).table mid
    pub look : TableLook
    pub told : WasTold (reverse mid.front) (page_asked asked).table look
    pub page : ReadsPage n mid look asked reply q
    pub of : AreEach n (IsPartOf n (page_asked asked).table look page.source) mid page.parts q page.own

  abbrev pub IsPageTry : PageAsked → Tried → PassView TableEvent → Type 0
  IsPageTry asked (Tried.Reply reply) q = RefusedByLook n p (request_of asked) reply q ⊎ Reads asked reply q
  IsPageTry asked Tried.Again q = IsInVain n p q
