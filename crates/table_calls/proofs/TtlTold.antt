-- What a TimeToLive is told, and the reply by it.
use Rattle.std.proofs.Common.{◌≡◌, ℕ, Option, None, Some, is_some, IsTrue, reverse, refl, sym, subst, inl, inr}
use Rattle.table_schema.specs.declared.schema.Schema.{Schema}
use Rattle.table_request.specs.declared.request.Request.TheVariants as request
use Rattle.table_request.specs.declared.time_to_live.UpdateTimeToLive.{UpdateTimeToLive}
use Rattle.table_model.specs.declared.refusal.TtlFault.{TtlFault}
use Rattle.table_model.specs.declared.reply.Reply.{Reply}
use Rattle.turnstile.specs.Passes.{PassView}
use Rattle.txn_core.specs.declared.message.Message.{Message}
use Rattle.txn_core.specs.declared.answer.Answer.{Answer}
use Rattle.txn_core.specs.declared.ruling.Ruling.TheVariants.{Carries, Refuses}
use Rattle.txn_core.specs.Laws.{catalog_by}
use Rattle.cell_model.specs.declared.answer.CatalogAnswer.{CatalogAnswer}
use Rattle.cell_model.specs.declared.answer.CatalogAnswer.TheVariants as answer
use Rattle.cell_model.specs.declared.catalog.CatalogTable.{CatalogTable}
use Rattle.cell_model.specs.declared.command.CatalogCommand.{CatalogCommand}
use Rattle.cell_model.specs.declared.command.CatalogCommand.TheVariants.{TimeToLive}
use Rattle.cell_model.specs.Catalogs.{named}
use Rattle.cell_model.specs.Commands.{ttl_judged, ttl_ruling}
use Rattle.cell_model.specs.Service.{service}
use Rattle.table_history.specs.Entries.{TableEvent}
use Rattle.table_history.specs.CommandEffects.{ttl_reply}
use Rattle.table_history.proofs.Altered.{gone}
use Rattle.table_history.proofs.Carried.{carried_by, denied_by}
use Rattle.cell_asks.specs.Answers.{ruled_answer}
use Rattle.cell_asks.specs.Steps.{One, past_of}
use Rattle.cell_asks.specs.declared.asks.Ruled.{Ruled}
use Rattle.table_calls.specs.Commands.{IsCommanded}
use Rattle.table_calls.specs.Replies.{ruled_reply}
use Rattle.cell_asks.proofs.Histories.{is_answer}
use Rattle.table_calls.proofs.Commanded.{commanded}

judged_so : (s : Schema) (fault : Option TtlFault) (told : CatalogAnswer) → ttl_judged s fault ≡ Carries told → answer.Changed s ≡ told
judged_so s None told e = let same : answer.Changed s ≡ told = cc in same
judged_so s (Some fault) told e = absurd (cc)

judged_not : (s : Schema) (found : Option TtlFault) (told : CatalogAnswer) → ttl_judged s found ≡ Refuses told
    → (fault : TtlFault) × (answer.TtlRefused fault ≡ told)
judged_not s None told e = absurd (cc)
judged_not s (Some fault) told e = let same : answer.TtlRefused fault ≡ told = cc in (fault, same)

-- one can reply to what is told
abbrev Tells : UpdateTimeToLive → CatalogAnswer → Type 0
Tells r told = IsTrue (is_some (ttl_reply r told))

expires : (r : UpdateTimeToLive) (o : Option CatalogTable) (told : CatalogAnswer) → ttl_ruling r.name r.enabled o ≡ Carries told → Tells r told
expires r None told e = absurd (cc)
expires r (Some t) told e = subst (Tells r) (judged_so _ _ told e) refl

none_there : (r : UpdateTimeToLive) (told : CatalogAnswer) → told ≡ answer.NoTable → Tells r told
none_there r told same = subst (Tells r) (sym same) refl

unexpires : (r : UpdateTimeToLive) (o : Option CatalogTable) (told : CatalogAnswer) → ttl_ruling r.name r.enabled o ≡ Refuses told → Tells r told
unexpires r None told e = let same : told ≡ answer.NoTable = cc in none_there r told same
unexpires r (Some t) told e = let done = judged_not _ _ told e in subst (Tells r) done.1 refl

module _ (n : ℕ) (p : PassView TableEvent) (q : PassView TableEvent) (r : UpdateTimeToLive) where
  abbrev stated : CatalogCommand
  stated = TimeToLive r.table r.name r.enabled

  -- a reply is to every answer that there can be
  ttl_told : (ruled : Ruled) → One n p (Message.Command stated) (ruled_answer ruled) q → IsTrue (is_some (ruled_reply r.table (ttl_reply r) ruled))
  ttl_told (Ruled.Changed told) own =
      let es = reverse (past_of own) in
      let is = carried_by n es stated p.moment told (is_answer n p (Message.Command stated) (Answer.Changed told) q own) in
      expires r (named (catalog_by (service n) es).tables r.table) told is.1
  ttl_told (Ruled.Refused told) own =
      let es = reverse (past_of own) in
      let o = named (catalog_by (service n) es).tables r.table in
      elim (denied_by n es stated p.moment told (is_answer n p (Message.Command stated) (Answer.Refused told) q own)) [
        | inl why ↦ none_there r told (gone o told why).1
        | inr other ↦ unexpires r o told other.1
      ]
  ttl_told (Ruled.Held number) own = refl

  -- of a copy of the request which was made before
  module _ (copy : UpdateTimeToLive) (same : copy ≡ r) where
    pub ttl_told_of : (ruled : Ruled) → One n p (Message.Command stated) (ruled_answer ruled) q
        → IsTrue (is_some (ruled_reply copy.table (ttl_reply copy) ruled))
    ttl_told_of ruled own = subst (λ z. IsTrue (is_some (ruled_reply z.table (ttl_reply z) ruled))) (sym same) (ttl_told ruled own)

    pub expired_of : (ruled : Ruled) → One n p (Message.Command stated) (ruled_answer ruled) q → (reply : Reply)
        → ruled_reply copy.table (ttl_reply copy) ruled ≡ Some reply → IsCommanded n p (request.UpdateTimeToLive r) r.table reply q
    expired_of ruled own reply is =
        commanded n p q (request.UpdateTimeToLive r) r.table stated refl ruled own reply
        (subst (λ z. ruled_reply z.table (ttl_reply z) ruled ≡ Some reply) same is)
