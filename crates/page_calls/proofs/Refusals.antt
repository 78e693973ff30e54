-- A request for a page that is refused by what a Look told is refused so by every database that has the tables then.
use Rattle.std.specs.Prelude.{◌⊎◌}
use Rattle.std.proofs.Common.{◌≡◌, ℕ, List, Option, None, Some, Err, reverse, refl, sym, ap, subst, ◌∙◌, inl, inr}
use Rattle.turnstile.specs.Passes.{PassView}
use Rattle.table_schema.specs.declared.schema.Schema.{Schema}
use Rattle.table_model.specs.declared.reply.Reply.TheVariants.{Refused}
use Rattle.table_model.specs.declared.refusal.Refusal.{Refusal}
use Rattle.table_model.specs.declared.refusal.Refusal.TheVariants.{Invalid, NoTable}
use Rattle.table_model.specs.declared.refusal.Invalid as any
use Rattle.table_model.specs.Database.{Database, Table, table_named}
use Rattle.table_model.specs.Effect.{IsEffect}
use Rattle.table_model.specs.Pages.{Source, source_of, IsFrom, IsInTable, IsQueriedFrom, IsScannedFrom}
use Rattle.table_pages.proofs.Replies.{from_none, from_source, query_begun, scan_begun}
use Rattle.txn_core.specs.declared.message.Message.{Message}
use Rattle.txn_core.specs.Laws.{catalog_by, item_by}
use Rattle.cell_model.specs.declared.answer.TableLook.{TableLook}
use Rattle.cell_model.specs.declared.question.CatalogQuestion.TheVariants.{Look}
use Rattle.cell_model.specs.Service.{service}
use Rattle.table_history.specs.Entries.{TableEvent}
use Rattle.table_history.specs.Standing.{HasTables}
use Rattle.table_history.proofs.Named.{absent_named, found_named}
use Rattle.cell_asks.specs.Answers.{look_answer}
use Rattle.cell_asks.specs.Steps.{One, past_of}
use Rattle.cell_asks.proofs.Histories.{is_answer, looked_none, looked_some}
use Rattle.item_calls.specs.Items.{RefusedByLook}
use Rattle.page_calls.specs.Asked.{PageAsked, a_scan, a_query, page_asked, request_of}
use Rattle.page_calls.specs.Steps.{IsRefusedAt, IsRefusedBy, IsUnknown}

-- ---- by a schema

module _ (schema : Schema) (why : any.Invalid) (P : Source → Type 0) where
  unknown : (index : Option (List ℕ)) → IsUnknown schema index why → IsFrom index (source_of schema index) (Refused (Invalid why)) P
  unknown None is = absurd is
  unknown (Some name) is = from_none schema (Refused (Invalid why)) P (Some name) (sym is.0) (ap (λ x. Refused (Invalid x)) is.1)

  from_refused : (index : Option (List ℕ)) (Refuses : Source → Type 0) → ((source : Source) → Refuses source → P source)
      → IsUnknown schema index why ⊎ ((source : Source) × (source_of schema index ≡ Some source) × Refuses source)
      → IsFrom index (source_of schema index) (Refused (Invalid why)) P
  from_refused index Refuses leads (inl is) = unknown index is
  from_refused index Refuses leads (inr is) = from_source schema (Refused (Invalid why)) P index is.0 (sym is.1) (leads is.0 is.2)

module _ (db : Database) (moment : ℕ) where
  faulty : (asked : PageAsked) (table : Table) → table_named db (page_asked asked).table ≡ Some table → (why : any.Invalid) → IsRefusedBy table.schema asked why
      → IsEffect db (request_of asked) moment db (Refused (Invalid why))
  faulty (a_scan r) table is why refused = (
    refl,
    subst (λ found. IsInTable r.page.table found (Refused (Invalid why))
        (λ t. IsFrom r.page.index (source_of t.schema r.page.index) (Refused (Invalid why)) (λ source. IsScannedFrom t r source (Refused (Invalid why)))))
        (sym is)
        (from_refused table.schema why (λ source. IsScannedFrom table r source (Refused (Invalid why))) r.page.index (λ source. IsRefusedAt table.schema (a_scan r) source why)
        (λ source at. scan_begun table r source (Refused (Invalid why)) (Err (Invalid why)) (sym at) refl) refused),
  )
  faulty (a_query r) table is why refused = (
    refl,
    subst (λ found. IsInTable r.page.table found (Refused (Invalid why))
        (λ t. IsFrom r.page.index (source_of t.schema r.page.index) (Refused (Invalid why)) (λ source. IsQueriedFrom t r source (Refused (Invalid why)))))
        (sym is)
        (from_refused table.schema why (λ source. IsQueriedFrom table r source (Refused (Invalid why))) r.page.index (λ source. IsRefusedAt table.schema (a_query r) source why)
        (λ source at. query_begun table r source (Refused (Invalid why)) (Err (Invalid why)) (sym at) refl) refused),
  )

  absent : (asked : PageAsked) → table_named db (page_asked asked).table ≡ None → IsEffect db (request_of asked) moment db (Refused (NoTable (page_asked asked).table))
  absent (a_scan r) none = (
    refl,
    subst (λ found. IsInTable r.page.table found (Refused (NoTable r.page.table))
        (λ t. IsFrom r.page.index (source_of t.schema r.page.index) (Refused (NoTable r.page.table)) (λ source. IsScannedFrom t r source (Refused (NoTable r.page.table)))))
        (sym none) refl,
  )
  absent (a_query r) none = (
    refl,
    subst (λ found. IsInTable r.page.table found (Refused (NoTable r.page.table))
        (λ t. IsFrom r.page.index (source_of t.schema r.page.index) (Refused (NoTable r.page.table)) (λ source. IsQueriedFrom t r source (Refused (NoTable r.page.table)))))
        (sym none) refl,
  )

-- ---- by a Look

module _ (n : ℕ) (p : PassView TableEvent) where
  refused_by : (asked : PageAsked) (told : Option TableLook) (q : PassView TableEvent) (one : One n p (Message.Ask (Look (page_asked asked).table)) (look_answer told) q) (why : Refusal)
      → ((db : Database) → HasTables n (past_of one) db → IsEffect db (request_of asked) p.moment db (Refused why)) → RefusedByLook n p (request_of asked) (Refused why) q
  refused_by (a_scan r) told q one why is = record { told = told; look = one; why = why; reply_is = refl; is = is }
  refused_by (a_query r) told q one why is = record { told = told; look = one; why = why; reply_is = refl; is = is }

  pub looked_absent : (asked : PageAsked) (q : PassView TableEvent) → One n p (Message.Ask (Look (page_asked asked).table)) (look_answer None) q
      → RefusedByLook n p (request_of asked) (Refused (NoTable (page_asked asked).table)) q
  looked_absent asked q one =
      let name = (page_asked asked).table in
      let es = reverse (past_of one) in
      refused_by asked None q one (NoTable name)
      (λ db stands.
      absent db p.moment asked
      (absent_named (item_by (service n) es) (catalog_by (service n) es).tables db.tables stands name (looked_none n es name p.moment (is_answer n p _ _ q one))))

  pub looked_faulty : (asked : PageAsked) (look : TableLook) (q : PassView TableEvent) → One n p (Message.Ask (Look (page_asked asked).table)) (look_answer (Some look)) q
      → (why : any.Invalid) → IsRefusedBy look.schema asked why → RefusedByLook n p (request_of asked) (Refused (Invalid why)) q
  looked_faulty asked look q one why refused =
      let name = (page_asked asked).table in
      let es = reverse (past_of one) in
      let told = looked_some n es name p.moment look (is_answer n p _ _ q one) in
      refused_by asked (Some look) q one (Invalid why)
      (λ db stands.
      let found = found_named (item_by (service n) es) (catalog_by (service n) es).tables db.tables stands name told.table told.is in
      faulty db p.moment asked found.table found.is why (subst (λ schema. IsRefusedBy schema asked why) (sym (found.that.schema ∙ told.schema)) refused))
