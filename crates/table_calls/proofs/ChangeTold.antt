-- What a Change is told, and the reply by it.
use Rattle.std.specs.Prelude.{◌⊎◌, if◌then◌else◌}
use Rattle.std.proofs.Common.{◌≡◌, ℕ, Bool, true, false, List, Option, None, Some, is_some, option_map, IsTrue, reverse, refl, sym, ap, subst, ◌∙◌, inl, inr}
use Rattle.table_schema.specs.declared.schema.Schema.{Schema}
use Rattle.table_schema.specs.declared.fault.SchemaFault.{SchemaFault}
use Rattle.table_schema.specs.declared.fault.SchemaFault.TheVariants.{BadDefinition, DefinitionMismatch}
use Rattle.table_request.specs.declared.request.Request.TheVariants as request
use Rattle.table_request.specs.declared.tables.IndexChange.{IndexChange}
use Rattle.table_request.specs.declared.tables.IndexChange.TheVariants.{Make, Remove}
use Rattle.table_request.specs.declared.tables.UpdateTable.{UpdateTable}
use Rattle.table_model.specs.declared.reply.Reply.{Reply}
use Rattle.table_model.specs.declared.reply.Reply.TheVariants.{Refused}
use Rattle.table_model.specs.declared.refusal.Refusal.TheVariants as refusal
use Rattle.table_model.specs.Catalog.{has_bad_definition, has_index, updated_schema}
use Rattle.table_model.specs.Pages.{global_named}
use Rattle.table_schema.specs.Index.{stated_of}
use Rattle.turnstile.specs.Passes.{PassView}
use Rattle.txn_core.specs.declared.message.Message.{Message}
use Rattle.txn_core.specs.declared.answer.Answer.{Answer}
use Rattle.txn_core.specs.declared.ruling.Ruling.{Ruling}
use Rattle.txn_core.specs.declared.ruling.Ruling.TheVariants.{Carries, Refuses}
use Rattle.txn_core.specs.Laws.{catalog_by}
use Rattle.cell_model.specs.declared.answer.CatalogAnswer.{CatalogAnswer}
use Rattle.cell_model.specs.declared.answer.CatalogAnswer.TheVariants as answer
use Rattle.cell_model.specs.declared.catalog.CatalogTable.{CatalogTable}
use Rattle.cell_model.specs.declared.command.CatalogCommand.{CatalogCommand}
use Rattle.cell_model.specs.declared.command.CatalogCommand.TheVariants.{Change}
use Rattle.cell_model.specs.Catalogs.{named}
use Rattle.cell_model.specs.Commands.{change_ruling, index_fault, is_typed, judged, unless}
use Rattle.cell_model.specs.FirstFault.{first_fault}
use Rattle.cell_model.specs.Service.{service}
use Rattle.table_history.specs.Entries.{TableEvent}
use Rattle.table_history.specs.CommandEffects.{index_named, reply_to, update_reply}
use Rattle.table_history.proofs.Altered.{gone}
use Rattle.table_history.proofs.Carried.{carried_by, denied_by}
use Rattle.cell_asks.specs.Answers.{ruled_answer}
use Rattle.cell_asks.specs.Steps.{One, past_of}
use Rattle.cell_asks.specs.declared.asks.Ruled.{Ruled}
use Rattle.table_calls.specs.Commands.{IsCommanded}
use Rattle.table_calls.specs.Replies.{removed_name, ruled_reply, update_told}
use Rattle.cell_asks.proofs.Histories.{is_answer}
use Rattle.table_calls.proofs.Commanded.{commanded}

-- ---- the reply by what is told

-- the name that is kept says what the request does
index_alike : (change : Option IndexChange)
    → option_map (λ why. Refused why) (option_map (λ index. refusal.NoIndex index) (removed_name change)) ≡ index_named change
index_alike None = refl
index_alike (Some (Make index)) = refl
index_alike (Some (Remove name)) = refl

alike : (r : UpdateTable) (told : CatalogAnswer) → update_told r.table (removed_name r.update.index) told ≡ update_reply r told
alike r (answer.Changed schema) = refl
alike r answer.NoTable = refl
alike r answer.NoIndex = index_alike r.update.index
alike r answer.IndexExists = refl
alike r (answer.BadSchema fault) = refl
alike r _ = refl

-- ---- what is told

abbrev ruled_typed : Option CatalogAnswer → Bool → CatalogAnswer → Option SchemaFault → Ruling CatalogAnswer
ruled_typed index bad told fault = unless index (if bad then Refuses (answer.BadSchema BadDefinition) else judged told fault)

abbrev ruled_so : Bool → Option CatalogAnswer → Bool → CatalogAnswer → Option SchemaFault → Ruling CatalogAnswer
ruled_so typed index bad told fault = if typed then ruled_typed index bad told fault else Refuses (answer.BadSchema DefinitionMismatch)

carries : (typed : Bool) (index : Option CatalogAnswer) (bad : Bool) (now : CatalogAnswer) (fault : Option SchemaFault) (told : CatalogAnswer)
    → ruled_so typed index bad now fault ≡ Carries told → now ≡ told
carries false index bad now fault told e = absurd (cc)
carries true (Some why) bad now fault told e = absurd (cc)
carries true None true now fault told e = absurd (cc)
carries true None false now (Some fault) told e = absurd (cc)
carries true None false now None told e = let same : now ≡ told = cc in same

refuses : (typed : Bool) (index : Option CatalogAnswer) (bad : Bool) (now : CatalogAnswer) (fault : Option SchemaFault) (told : CatalogAnswer)
    → ruled_so typed index bad now fault ≡ Refuses told → (index ≡ Some told) ⊎ ((found : SchemaFault) × (answer.BadSchema found ≡ told))
refuses false index bad now fault told e = let same : answer.BadSchema DefinitionMismatch ≡ told = cc in inr (DefinitionMismatch, same)
refuses true (Some why) bad now fault told e = let same : why ≡ told = cc in inl (ap Some same)
refuses true None true now fault told e = let same : answer.BadSchema BadDefinition ≡ told = cc in inr (BadDefinition, same)
refuses true None false now (Some fault) told e = let same : answer.BadSchema fault ≡ told = cc in inr (fault, same)
refuses true None false now None told e = absurd (cc)

-- one can reply to what is told
abbrev Tells : UpdateTable → CatalogAnswer → Type 0
Tells r told = IsTrue (is_some (update_told r.table (removed_name r.update.index) told))

abbrev TellsOf : List ℕ → Option IndexChange → CatalogAnswer → Type 0
TellsOf name change told = IsTrue (is_some (update_told name (removed_name change) told))

unless_there : (b : Bool) (told : CatalogAnswer) → (if b then None else Some answer.NoIndex) ≡ Some told → answer.NoIndex ≡ told
unless_there true told e = absurd (cc)
unless_there false told e = let same : answer.NoIndex ≡ told = cc in same

if_there : (b : Bool) (told : CatalogAnswer) → (if b then Some answer.IndexExists else None) ≡ Some told → answer.IndexExists ≡ told
if_there true told e = let same : answer.IndexExists ≡ told = cc in same
if_there false told e = absurd (cc)

by_index : (name : List ℕ) (schema : Schema) (change : Option IndexChange) (told : CatalogAnswer) → index_fault schema change ≡ Some told
    → TellsOf name change told
by_index name schema None told e = absurd (cc)
by_index name schema (Some (Remove index)) told e =
    subst (TellsOf name (Some (Remove index))) (unless_there (is_some (global_named index schema.globals)) told e) refl
by_index name schema (Some (Make index)) told e =
    subst (TellsOf name (Some (Make index))) (if_there (has_index schema index.name) told e) refl

none_there : (r : UpdateTable) (told : CatalogAnswer) → told ≡ answer.NoTable → Tells r told
none_there r told same = subst (Tells r) (sym same) refl

changes : (r : UpdateTable) (o : Option CatalogTable) (told : CatalogAnswer) → change_ruling r.update o ≡ Carries told → Tells r told
changes r None told e = absurd (cc)
changes r (Some t) told e =
    let schema = updated_schema t.schema r.update in
    subst (Tells r)
    (carries (is_typed t.schema) (index_fault t.schema r.update.index) (has_bad_definition t.schema.definitions r.update.definitions)
    (answer.Changed schema) (first_fault (stated_of schema)) told e)
    refl

unchanges : (r : UpdateTable) (o : Option CatalogTable) (told : CatalogAnswer) → change_ruling r.update o ≡ Refuses told → Tells r told
unchanges r None told e = let same : told ≡ answer.NoTable = cc in none_there r told same
unchanges r (Some t) told e =
    let schema = updated_schema t.schema r.update in
    let why =
    refuses (is_typed t.schema) (index_fault t.schema r.update.index) (has_bad_definition t.schema.definitions r.update.definitions)
    (answer.Changed schema) (first_fault (stated_of schema)) told e in
    elim why [
      | inl index ↦ by_index r.table t.schema r.update.index told index
      | inr found ↦ subst (Tells r) found.1 refl
    ]

module _ (n : ℕ) (p : PassView TableEvent) (q : PassView TableEvent) (r : UpdateTable) where
  abbrev stated : CatalogCommand
  stated = Change r.table r.update

  abbrev tell : CatalogAnswer → Option Reply
  tell told = update_told r.table (removed_name r.update.index) told

  -- a reply is to every answer that there can be
  change_told : (ruled : Ruled) → One n p (Message.Command stated) (ruled_answer ruled) q → IsTrue (is_some (ruled_reply r.table tell ruled))
  change_told (Ruled.Changed told) own =
      let es = reverse (past_of own) in
      let is = carried_by n es stated p.moment told (is_answer n p (Message.Command stated) (Answer.Changed told) q own) in
      changes r (named (catalog_by (service n) es).tables r.table) told is.1
  change_told (Ruled.Refused told) own =
      let es = reverse (past_of own) in
      let o = named (catalog_by (service n) es).tables r.table in
      elim (denied_by n es stated p.moment told (is_answer n p (Message.Command stated) (Answer.Refused told) q own)) [
        | inl why ↦ none_there r told (gone o told why).1
        | inr other ↦ unchanges r o told other.1
      ]
  change_told (Ruled.Held number) own = refl

  ruled_alike : (ruled : Ruled) → ruled_reply r.table tell ruled ≡ ruled_reply r.table (reply_to (request.UpdateTable r) p.moment) ruled
  ruled_alike (Ruled.Changed told) = alike r told
  ruled_alike (Ruled.Refused told) = alike r told
  ruled_alike (Ruled.Held number) = refl

  updated : (ruled : Ruled) → One n p (Message.Command stated) (ruled_answer ruled) q → (reply : Reply)
      → ruled_reply r.table tell ruled ≡ Some reply → IsCommanded n p (request.UpdateTable r) r.table reply q
  updated ruled own reply is = commanded n p q (request.UpdateTable r) r.table stated refl ruled own reply (sym (ruled_alike ruled) ∙ is)

  -- of copies of the names which were made before
  module _ (name : List ℕ) (removed : Option (List ℕ)) (named_is : name ≡ r.table) (removed_is : removed ≡ removed_name r.update.index) where
    pub change_told_of : (ruled : Ruled) → One n p (Message.Command stated) (ruled_answer ruled) q
        → IsTrue (is_some (ruled_reply name (update_told name removed) ruled))
    change_told_of ruled own =
        subst (λ z. IsTrue (is_some (ruled_reply z (update_told z removed) ruled))) (sym named_is)
        (subst (λ z. IsTrue (is_some (ruled_reply r.table (update_told r.table z) ruled))) (sym removed_is) (change_told ruled own))

    pub updated_of : (ruled : Ruled) → One n p (Message.Command stated) (ruled_answer ruled) q → (reply : Reply)
        → ruled_reply name (update_told name removed) ruled ≡ Some reply → IsCommanded n p (request.UpdateTable r) r.table reply q
    updated_of ruled own reply is =
        updated ruled own reply
        (subst (λ z. ruled_reply r.table (update_told r.table z) ruled ≡ Some reply) removed_is
        (subst (λ z. ruled_reply z (update_told z removed) ruled ≡ Some reply) named_is is))
