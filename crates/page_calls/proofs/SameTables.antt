-- The table that a Look told of is there for each part of a page, and its rows are those that readers are shown.
use Rattle.std.proofs.Common.{◌≡◌, ℕ, zero, suc, Bool, true, false, List, [], ◌∷◌, map, Option, None, Some, reverse, refl, sym, ap, subst, ◌∙◌}
use Rattle.turnstile.specs.Passes.{PassView}
use Rattle.txn_core.specs.declared.message.Message.{Message}
use Rattle.txn_core.specs.declared.answer.Answer.{Answer}
use Rattle.txn_core.specs.Answers.{page_answer}
use Rattle.txn_core.specs.Legal.{state}
use Rattle.txn_core.specs.Laws.{catalog_by}
use Rattle.txn_core.proofs.Exports.{catalog_is_serial}
use Rattle.table_model.specs.declared.reply.Reply.{Reply}
use Rattle.table_model.specs.Pages.{Source}
use Rattle.cell_model.specs.declared.answer.CatalogAnswer.{CatalogAnswer}
use Rattle.cell_model.specs.declared.answer.CatalogAnswer.TheVariants as answer
use Rattle.cell_model.specs.declared.answer.PageRow.{PageRow}
use Rattle.cell_model.specs.declared.answer.TableLook.{TableLook}
use Rattle.cell_model.specs.declared.catalog.CatalogTable.{CatalogTable}
use Rattle.cell_model.specs.declared.question.CatalogQuestion.TheVariants.{Page}
use Rattle.cell_model.specs.declared.question.PageQuestion.{PageQuestion}
use Rattle.cell_model.specs.declared.question.PageRoom.{PageRoom}
use Rattle.cell_model.specs.declared.question.PageSource.{PageSource}
use Rattle.cell_model.specs.Catalogs.{numbered}
use Rattle.cell_model.specs.Pages.{asked_rows, has_source_in, is_over, page_row, room_after, serves, taken}
use Rattle.cell_model.specs.Parts.{AreParts, GoesOn, PagePart, next_page}
use Rattle.cell_model.specs.Service.{service}
use Rattle.cell_model.proofs.Lawful.{service_lawful}
use Rattle.table_history.specs.Entries.{TableAnswer, TableEvent}
use Rattle.table_history.specs.SameTable.{StillHas}
use Rattle.cell_asks.specs.Steps.{answered, past_of}
use Rattle.cell_asks.specs.Told.{WasTold}
use Rattle.cell_asks.proofs.Histories.{before_legal, is_answer, told_then, that_table}
use Rattle.cell_asks.proofs.Trails.{one_counts, was_told_after}
use Rattle.page_calls.specs.Asked.{PageAsked, a_scan, a_query, Begins, IsSourceOf}
use Rattle.page_calls.specs.Pages.{AreEach, AreOwnParts, IsOwnPart, IsPartOf, ReadsPage}
use Rattle.page_calls.proofs.ShownParts.{shows_rows}

-- ---- one part

served : (b : Bool) (part told : CatalogAnswer) → (let a : TableAnswer = Answer.Part told in a) ≡ page_answer b part → b ≡ true
served true part told is = refl
served false part told is = absurd (cc)

some_table : (found : Option CatalogTable) (source : PageSource) → has_source_in found source ≡ true → (t : CatalogTable) × (found ≡ Some t)
some_table None source has = absurd (cc)
some_table (Some t) source has = (t, refl)

module _ (n : ℕ) (name : List ℕ) (look : TableLook) (source : Source) where
  is_part : (p : PassView TableEvent) (part : PagePart) (mid : PassView TableEvent) (own : IsOwnPart n p part mid) → part.question.table ≡ look.number
      → IsSourceOf look source part.question.source → WasTold (reverse p.front) name look → IsPartOf n name look source (past_of own.one) part
  is_part p part mid own number read told =
      let m = Message.ScanPage (Page part.question) in
      let a : TableAnswer = Answer.Part part.told in
      let log = past_of own.one in
      let es = reverse log in
      let legal = before_legal n p m a mid own.one in
      let catalog = (state (service n) es).catalog in
      let serial = catalog_is_serial (service n) (service_lawful n) es in
      let there = served (serves catalog (Page part.question)) _ part.told (is_answer n p m a mid own.one) in
      let found = some_table (numbered catalog.tables part.question.table) part.question.source there in
      let t =
      that_table n es legal name look (told_then n p m a mid own.one name look told)
      (found.0, sym (ap (λ c. numbered c.tables look.number) serial) ∙ sym (ap (numbered catalog.tables) number) ∙ found.1) in
      let kept : part.catalog ≡ catalog_by (service n) es = ap (λ (x : PagePart). x.catalog) own.is ∙ serial in
      let at : numbered part.catalog.tables look.number ≡ Some t.table =
      ap (λ c. numbered c.tables look.number) kept ∙ sym (ap (numbered (catalog_by (service n) es).tables) t.number) ∙ t.there in
      record {
        table = t.table;
        there = at;
        still = subst (λ c. StillHas c name look.schema t.table) (sym kept) (record { named = t.named_so; that = t.that });
        shown =
            shows_rows n log legal part own.is name t.table t.named_so (ap (numbered part.catalog.tables) number ∙ at) look t.that source read;
      }

  -- ---- all parts

  abbrev Each : (p : PassView TableEvent) (parts : List PagePart) (q : PassView TableEvent) → AreOwnParts n p parts q → Type 0
  Each p parts q own = AreEach n (IsPartOf n name look source) p parts q own

  are_parts : (many : ℕ) (page : PageQuestion) (parts : List PagePart) → page.table ≡ look.number → IsSourceOf look source page.source → AreParts many page parts
      → (p q : PassView TableEvent) (own : AreOwnParts n p parts q) → WasTold (reverse p.front) name look → Each p parts q own
  are_parts many page [] number read are p q own told = tt
  are_parts zero page (part ∷ parts) number read are p q own told = absurd (cc)
  are_parts (suc many) page (part ∷ parts) number read are p q own told =
      let same = are.0.asked in
      let mine =
      is_part p part own.0 own.1 (ap (λ (x : PageQuestion). x.table) same ∙ number) (subst (λ (x : PageQuestion). IsSourceOf look source x.source) (sym same) read) told in
      let goes = subst (λ t. GoesOn t (parts ≡ []) (λ room. AreParts many (next_page page room) parts)) are.0.told are.1 in
      let rows = taken page.room (asked_rows part.catalog page part.rows) in
      let room = room_after page.room rows in
      (mine, behind parts own.2 (λ left more. are_parts many (next_page page left) parts number read more own.0 q own.2 later) (map page_row rows) room (is_over room) goes)
    where
      later : WasTold (reverse own.0.front) name look
      later =
          let m = Message.ScanPage (Page part.question) in
          let a : TableAnswer = Answer.Part part.told in
          was_told_after n p (answered n p m a ∷ []) 0 own.0 (one_counts n p m a own.0 own.1.one) name look told

      none : (rest : List PagePart) (owns : AreOwnParts n own.0 rest q) → rest ≡ [] → Each own.0 rest q owns
      none [] owns same = tt
      none (x ∷ rest) owns same = absurd (cc)

      behind : (rest : List PagePart) (owns : AreOwnParts n own.0 rest q) → ((room : PageRoom) → AreParts many (next_page page room) rest → Each own.0 rest q owns)
          → (rows : List PageRow) (room : PageRoom) (stopped : Bool) → GoesOn (answer.Part rows room stopped) (rest ≡ []) (λ room. AreParts many (next_page page room) rest)
          → Each own.0 rest q owns
      behind rest owns leads rows room true goes = none rest owns goes
      behind rest owns leads rows room false more = leads room more

first_is : (n : ℕ) (look : TableLook) (asked : PageAsked) (source : Source) (first : PageQuestion) (behind : ℕ) → Begins n look asked source first behind
    → (first.table ≡ look.number) × IsSourceOf look source first.source
first_is n look (a_scan r) source first behind begins = (begins.is_first.table, begins.is_first.source_is)
first_is n look (a_query r) source first behind begins = (begins.is_first.table, begins.is_first.source_is)

pub parts_of : (n : ℕ) (p : PassView TableEvent) (name : List ℕ) (look : TableLook) (asked : PageAsked) (reply : Reply) (q : PassView TableEvent)
    → WasTold (reverse p.front) name look → (page : ReadsPage n p look asked reply q) → AreEach n (IsPartOf n name look page.source) p page.parts q page.own
parts_of n p name look asked reply q told page =
    let first = first_is n look asked page.source page.first page.behind page.begins in
    are_parts n name look page.source (suc page.behind) page.first page.parts first.0 first.1 page.are p q page.own told
