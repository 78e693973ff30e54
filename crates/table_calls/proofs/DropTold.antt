-- What a Drop is told, and the reply by it.
use Rattle.std.proofs.Common.{◌≡◌, ℕ, List, Option, None, Some, is_some, IsTrue, reverse, refl, sym, subst, inl, inr}
use Rattle.table_schema.specs.declared.schema.Schema.{Schema}
use Rattle.table_request.specs.declared.request.Request.TheVariants as request
use Rattle.table_request.specs.declared.tables.DeleteTable.{DeleteTable}
use Rattle.table_model.specs.declared.reply.Reply.{Reply}
use Rattle.turnstile.specs.Passes.{PassView}
use Rattle.txn_core.specs.declared.message.Message.{Message}
use Rattle.txn_core.specs.declared.answer.Answer.{Answer}
use Rattle.txn_core.specs.declared.ruling.Ruling.TheVariants.{Carries, Refuses}
use Rattle.txn_core.specs.Laws.{catalog_by}
use Rattle.cell_model.specs.declared.answer.CatalogAnswer.{CatalogAnswer}
use Rattle.cell_model.specs.declared.answer.CatalogAnswer.TheVariants as answer
use Rattle.cell_model.specs.declared.catalog.CatalogTable.{CatalogTable}
use Rattle.cell_model.specs.declared.command.CatalogCommand.TheVariants.{Drop}
use Rattle.cell_model.specs.Catalogs.{named}
use Rattle.cell_model.specs.Commands.{drop_ruling}
use Rattle.cell_model.specs.Service.{service}
use Rattle.table_history.specs.Entries.{TableEvent}
use Rattle.table_history.specs.CommandEffects.{delete_reply}
use Rattle.table_history.proofs.Altered.{gone}
use Rattle.table_history.proofs.Carried.{carried_by, denied_by}
use Rattle.cell_asks.specs.Answers.{ruled_answer}
use Rattle.cell_asks.specs.Steps.{One, past_of}
use Rattle.cell_asks.specs.declared.asks.Ruled.{Ruled}
use Rattle.table_calls.specs.Commands.{IsCommanded}
use Rattle.table_calls.specs.Replies.{ruled_reply}
use Rattle.cell_asks.proofs.Histories.{is_answer}
use Rattle.table_calls.proofs.Commanded.{commanded}

drops : (o : Option CatalogTable) (told : CatalogAnswer) → drop_ruling o ≡ Carries told → (s : Schema) × (answer.Dropped s ≡ told)
drops None told e = absurd (cc)
drops (Some t) told e = let same : answer.Dropped t.schema ≡ told = cc in (t.schema, same)

undrops : (o : Option CatalogTable) (told : CatalogAnswer) → drop_ruling o ≡ Refuses told → told ≡ answer.NoTable
undrops None told e = let same : told ≡ answer.NoTable = cc in same
undrops (Some t) told e = absurd (cc)

module _ (n : ℕ) (p : PassView TableEvent) (q : PassView TableEvent) (name : List ℕ) where
  -- a reply is to every answer that there can be
  drop_told : (ruled : Ruled) → One n p (Message.Command (Drop name)) (ruled_answer ruled) q → IsTrue (is_some (ruled_reply name (delete_reply name) ruled))
  drop_told (Ruled.Changed told) own =
      let es = reverse (past_of own) in
      let is = carried_by n es (Drop name) p.moment told (is_answer n p (Message.Command (Drop name)) (Answer.Changed told) q own) in
      let done = drops (named (catalog_by (service n) es).tables name) told is.1 in subst (λ x. IsTrue (is_some (delete_reply name x))) done.1 refl
  drop_told (Ruled.Refused told) own =
      let es = reverse (past_of own) in
      let o = named (catalog_by (service n) es).tables name in
      let none = λ (same : told ≡ answer.NoTable). subst (λ x. IsTrue (is_some (delete_reply name x))) (sym same) refl in
      elim (denied_by n es (Drop name) p.moment told (is_answer n p (Message.Command (Drop name)) (Answer.Refused told) q own)) [
        | inl why ↦ none (gone o told why).1
        | inr other ↦ none (undrops o told other.1)
      ]
  drop_told (Ruled.Held number) own = refl

-- of a copy of the name which was made before
module _ (n : ℕ) (p : PassView TableEvent) (q : PassView TableEvent) (r : DeleteTable) (name : List ℕ) (same : name ≡ r.table) where
  pub drop_told_of : (ruled : Ruled) → One n p (Message.Command (Drop r.table)) (ruled_answer ruled) q
      → IsTrue (is_some (ruled_reply name (delete_reply name) ruled))
  drop_told_of ruled own = subst (λ z. IsTrue (is_some (ruled_reply z (delete_reply z) ruled))) (sym same) (drop_told n p q r.table ruled own)

  pub deleted_of : (ruled : Ruled) → One n p (Message.Command (Drop r.table)) (ruled_answer ruled) q → (reply : Reply)
      → ruled_reply name (delete_reply name) ruled ≡ Some reply → IsCommanded n p (request.DeleteTable r) r.table reply q
  deleted_of ruled own reply is =
      commanded n p q (request.DeleteTable r) r.table (Drop r.table) refl ruled own reply
      (subst (λ z. ruled_reply z (delete_reply z) ruled ≡ Some reply) same is)
