-- The names that a Names is told are those of the tables of every database that has them.
use Rattle.std.specs.List.{AllZip}
use Rattle.std.specs.Prelude.{nat_lt, if◌then◌else◌}
use Rattle.std.proofs.Common.{◌≡◌, ◌-◌, ℕ, suc, Bool, List, [], ◌∷◌, Option, None, map, filter, take, length, slice_get, reverse, refl, sym, ap, ◌∙◌, arith}
use Rattle.attr_value.specs.Tree.{Attributes}
use Rattle.table_request.specs.declared.request.Request.TheVariants as request
use Rattle.table_request.specs.declared.tables.ListTables.{ListTables}
use Rattle.table_model.specs.declared.reply.Reply.{Reply}
use Rattle.table_model.specs.declared.reply.Reply.TheVariants.{Tables}
use Rattle.table_model.specs.Catalog.{is_after, last_name, list_tables, listed}
use Rattle.table_model.specs.Database.{Database, Table}
use Rattle.turnstile.specs.Passes.{PassView}
use Rattle.txn_core.specs.declared.message.Message.{Message}
use Rattle.txn_core.specs.Laws.{catalog_by, item_by}
use Rattle.cell_model.specs.declared.answer.CatalogAnswer.TheVariants as answer
use Rattle.cell_model.specs.declared.answer.NameList.{NameList}
use Rattle.cell_model.specs.declared.catalog.CatalogTable.{CatalogTable}
use Rattle.cell_model.specs.declared.key.CellKey.{CellKey}
use Rattle.cell_model.specs.declared.question.CatalogQuestion.TheVariants.{Names}
use Rattle.cell_model.specs.Pages.{name_list}
use Rattle.cell_model.specs.Service.{service}
use Rattle.cell_model.specs.Told.{told_names}
use Rattle.table_history.specs.Entries.{TableEvent}
use Rattle.table_history.specs.Standing.{IsTableOf, HasTables}
use Rattle.cell_asks.specs.Answers.{names_answer}
use Rattle.cell_asks.specs.Steps.{One, past_of}
use Rattle.table_calls.specs.Questions.{ByNames}
use Rattle.table_calls.specs.Replies.{listed_reply}
use Rattle.cell_asks.proofs.Histories.{told_is}

-- the last name is the one at the last place
pub last_at : (names : List (List ℕ)) → last_name names ≡ slice_get names (length names - 1)
last_at [] = refl
last_at (x ∷ []) = refl
last_at (x ∷ (y ∷ ys)) =
    let place : length (x ∷ y ∷ ys) - 1 ≡ suc (length (y ∷ ys) - 1) = omega arith in
    last_at (y ∷ ys) ∙ sym (ap (slice_get (x ∷ y ∷ ys)) place)

same_names : (item : CellKey → Option Attributes) (ts : List CatalogTable) (es : List (List ℕ × Table)) → AllZip (IsTableOf item) ts es
    → map (λ (e : List ℕ × Table). e.0) es ≡ map (λ (t : CatalogTable). t.schema.name) ts
same_names item [] [] stands = refl
same_names item [] (e ∷ es) stands = absurd stands
same_names item (t ∷ ts) [] stands = absurd stands
same_names item (t ∷ ts) (e ∷ es) stands = λ i. stands.0.name i ∷ same_names item ts es stands.1 i

names_parts : (ns ms : List (List ℕ)) (more further : Bool) → answer.NameList ns more ≡ answer.NameList ms further → (ns ≡ ms) × (more ≡ further)
names_parts ns ms more further e = let names : ns ≡ ms = cc in let rest : more ≡ further = cc in (names, rest)

-- the reply by the names and whether more follow
abbrev reply_of : List (List ℕ) → Bool → Reply
reply_of names more = Tables (record { names = names; last = if more then last_name names else None })

listed_in : (list : NameList) (limit : ℕ) (names : List (List ℕ)) → told_names list ≡ name_list limit names → listed_reply list ≡ Tables (listed limit names)
listed_in list limit names e =
    let parts = names_parts list.names (take limit names) list.more (nat_lt limit (length names)) e in λ i. reply_of (parts.0 i) (parts.1 i)

module _ (n : ℕ) (p : PassView TableEvent) (q : PassView TableEvent) (r : ListTables) where
  lists_in : (list : NameList) (reply : Reply) (own : One n p (Message.Ask (Names r.after r.limit)) (names_answer list) q) → reply ≡ listed_reply list
      → (db : Database) → HasTables n (past_of own) db → (db, reply) ≡ list_tables db r
  lists_in list reply own is db stands =
      let es = reverse (past_of own) in
      let all = same_names (item_by (service n) es) (catalog_by (service n) es).tables db.tables stands in
      let told = told_is n p (Names r.after r.limit) (told_names list) q own in
      (λ i. (db, is i)) ∙ (λ i. (db, listed_in list r.limit _ told i))
      ∙ ap (λ names. (db, Tables (listed r.limit (filter (is_after r.after) names)))) (sym all)

  pub lists : (list : NameList) (reply : Reply) → One n p (Message.Ask (Names r.after r.limit)) (names_answer list) q → reply ≡ listed_reply list
      → ByNames n p (request.ListTables r) r.after r.limit reply q
  lists list reply own is = record { told = list; own = own; is = λ db stands. lists_in list reply own is db stands }
