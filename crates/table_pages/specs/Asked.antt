-- What a call on one table says of its reply.
use Rattle.std.specs.Prelude.{ℕ, true, Option}
use Rattle.row_keys.specs.declared.position.Position.{Position}
use Rattle.table_request.specs.declared.pages.Query.{Query}
use Rattle.table_request.specs.declared.pages.Scan.{Scan}
use Rattle.table_rows.specs.View.{TableView}
use Rattle.table_model.specs.declared.reply.Reply.{Reply}
use Rattle.table_model.specs.declared.reply.Reply.TheVariants as answer
use Rattle.table_model.specs.Pages.{Source, source_of, source_entries, queried, scanned, IsPageOf, IsFrom, IsQueriedFrom, IsScannedFrom}
use Rattle.table_items.specs.Effects.{table_at}

-- the reply is what a Query of the table that is kept like this is answered, whatever its number
abbrev pub IsQueryOf : TableView → Query → Reply → Type 0
IsQueryOf kept r reply =
    (number : ℕ) → IsFrom r.page.index (source_of kept.schema r.page.index) reply
    (λ source. IsQueriedFrom (table_at number kept) r source reply)

-- the same of a Scan
abbrev pub IsScanOf : TableView → Scan → Reply → Type 0
IsScanOf kept r reply =
    (number : ℕ) → IsFrom r.page.index (source_of kept.schema r.page.index) reply
    (λ source. IsScannedFrom (table_at number kept) r source reply)

-- how many rows the page of a reply looked at
abbrev pub looked : Reply → ℕ
looked (answer.Page page consumed) = page.scanned
looked reply = 0

-- ---- what inner steps say

-- the reply is the page of a Query of a source from behind a position on
abbrev pub IsQueryPage : TableView → Query → Source → Option Position → Reply → Type 0
IsQueryPage kept r source start reply =
    (number : ℕ) → IsPageOf kept.schema source r.page r.forward start (queried r (source_entries (table_at number kept) source)) reply

-- the same of a Scan
abbrev pub IsScanPage : TableView → Scan → Source → Option Position → Reply → Type 0
IsScanPage kept r source start reply =
    (number : ℕ) → IsPageOf kept.schema source r.page true start (scanned r (source_entries (table_at number kept) source)) reply
