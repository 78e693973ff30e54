-- What a Create is told, and the reply by it.
use Rattle.std.specs.Prelude.{◌⊎◌, nat_le, length, if◌then◌else◌}
use Rattle.std.proofs.Common.{◌≡◌, ℕ, ◌+◌, Bool, true, false, Option, None, Some, is_some, IsTrue, reverse, refl, sym, ap, subst, ◌∙◌, inl, inr}
use Rattle.table_schema.specs.declared.schema.Schema.{Schema}
use Rattle.table_schema.specs.declared.fault.SchemaFault.{SchemaFault}
use Rattle.table_schema.specs.Index.{stated_of}
use Rattle.table_request.specs.declared.request.Request.TheVariants as request
use Rattle.table_request.specs.declared.tables.CreateTable.{CreateTable}
use Rattle.table_model.specs.declared.reply.Reply.{Reply}
use Rattle.table_model.specs.Catalog.{made_at, most_tables}
use Rattle.turnstile.specs.Passes.{PassView}
use Rattle.txn_core.specs.declared.message.Message.{Message}
use Rattle.txn_core.specs.declared.answer.Answer.{Answer}
use Rattle.txn_core.specs.declared.ruling.Ruling.TheVariants.{Carries, Refuses}
use Rattle.txn_core.specs.Laws.{catalog_by}
use Rattle.cell_model.specs.declared.answer.CatalogAnswer.{CatalogAnswer}
use Rattle.cell_model.specs.declared.answer.CatalogAnswer.TheVariants as answer
use Rattle.cell_model.specs.declared.catalog.Catalog.{Catalog}
use Rattle.cell_model.specs.declared.command.CatalogCommand.TheVariants.{Create}
use Rattle.cell_model.specs.Catalogs.{last_drawn, named}
use Rattle.cell_model.specs.Commands.{judged}
use Rattle.cell_model.specs.FirstFault.{first_fault, TellsFirst}
use Rattle.cell_model.specs.Service.{service}
use Rattle.cell_model.proofs.FirstFaults as faults
use Rattle.cell_model.proofs.Numbers.{some_parts}
use Rattle.table_history.specs.Entries.{TableEvent}
use Rattle.table_history.specs.CommandEffects.{create_reply}
use Rattle.table_history.proofs.Carried.{Denied, carried_by, denied_by}
use Rattle.cell_asks.specs.Answers.{ruled_answer}
use Rattle.cell_asks.specs.Steps.{One, past_of}
use Rattle.cell_asks.specs.declared.asks.Ruled.{Ruled}
use Rattle.table_calls.specs.Commands.{CreatesTable}
use Rattle.table_calls.specs.Replies.{create_told, ruled_reply}
use Rattle.cell_asks.proofs.Histories.{is_answer}
use Rattle.table_calls.proofs.Commanded.{commanded}

made : (full : Bool) (number : ℕ) (fault : Option SchemaFault) (told : CatalogAnswer)
    → (if full then Refuses answer.Full else judged (answer.Made number) fault) ≡ Carries told → answer.Made number ≡ told
made true number fault told e = absurd (cc)
made false number (Some fault) told e = absurd (cc)
made false number None told e = let same : answer.Made number ≡ told = cc in same

unmade : (full : Bool) (number : ℕ) (found : Option SchemaFault) (told : CatalogAnswer)
    → (if full then Refuses answer.Full else judged (answer.Made number) found) ≡ Refuses told
    → (answer.Full ≡ told) ⊎ ((fault : SchemaFault) × (found ≡ Some fault) × (answer.BadSchema fault ≡ told))
unmade true number found told e = let same : answer.Full ≡ told = cc in inl same
unmade false number (Some fault) told e = let same : answer.BadSchema fault ≡ told = cc in inr (fault, refl, same)
unmade false number None told e = absurd (cc)

exists : (there : Bool) (told : CatalogAnswer) → (if there then Some answer.Exists else None) ≡ Some told → answer.Exists ≡ told
exists true told e = let same : answer.Exists ≡ told = cc in same
exists false told e = absurd (cc)

-- the ways in which a Create is refused
abbrev BreaksWith : Schema → CatalogAnswer → Type 0
BreaksWith schema told = (fault : SchemaFault) × (first_fault (stated_of schema) ≡ Some fault) × (answer.BadSchema fault ≡ told)

abbrev IsRefusal : Schema → CatalogAnswer → Type 0
IsRefusal schema told = (answer.Exists ≡ told) ⊎ ((answer.Full ≡ told) ⊎ BreaksWith schema told)

refused_by : (schema : Schema) (c : Catalog) (told : CatalogAnswer) → Denied (Create schema) told c → IsRefusal schema told
refused_by schema c told (inl why) = inl (exists (is_some (named c.tables schema.name)) told why)
refused_by schema c told (inr (free, why)) =
    inr (unmade (nat_le most_tables (length c.tables)) (last_drawn c + 1) (first_fault (stated_of schema)) told why)

module _ (n : ℕ) (p : PassView TableEvent) (q : PassView TableEvent) (r : CreateTable) where
  -- the table that is made
  abbrev new : Schema
  new = made_at p.moment r.schema

  abbrev Told : CatalogAnswer → Type 0
  Told told = IsTrue (is_some (create_told new told))

  module _ (told : CatalogAnswer) where
    made_told : (own : One n p (Message.Command (Create r.schema)) (Answer.Changed told) q) → (number : ℕ) × (answer.Made number ≡ told)
    made_told own =
        let es = reverse (past_of own) in
        let c = catalog_by (service n) es in
        let is = carried_by n es (Create r.schema) p.moment told (is_answer n p (Message.Command (Create r.schema)) (Answer.Changed told) q own) in
        (last_drawn c + 1, made (nat_le most_tables (length c.tables)) (last_drawn c + 1) (first_fault (stated_of r.schema)) told is.1)

    not_made : (own : One n p (Message.Command (Create r.schema)) (Answer.Refused told) q) → IsRefusal r.schema told
    not_made own =
        let es = reverse (past_of own) in
        refused_by r.schema (catalog_by (service n) es) told
        (denied_by n es (Create r.schema) p.moment told (is_answer n p (Message.Command (Create r.schema)) (Answer.Refused told) q own))

  -- a reply is to every answer that there can be
  created_told : (ruled : Ruled) → One n p (Message.Command (Create r.schema)) (ruled_answer ruled) q
      → IsTrue (is_some (ruled_reply new.name (create_told new) ruled))
  created_told (Ruled.Changed told) own = let is = made_told told own in subst Told is.1 refl
  created_told (Ruled.Refused told) own =
      elim (not_made told own) [
        | inl is ↦ subst Told is refl
        | inr (inl is) ↦ subst Told is refl
        | inr (inr bad) ↦ subst Told bad.2 refl
      ]
  created_told (Ruled.Held number) own = refl

  -- what both say of an answer, said of the one that it is
  as_told : (x told : CatalogAnswer) (reply : Reply) → x ≡ told → create_told new x ≡ create_reply r.schema p.moment x → create_told new told ≡ Some reply
      → create_reply r.schema p.moment told ≡ Some reply
  as_told x told reply is same told_is = subst (λ z. create_reply r.schema p.moment z ≡ create_told new z) is (sym same) ∙ told_is

  by_effect : (ruled : Ruled) → One n p (Message.Command (Create r.schema)) (ruled_answer ruled) q → (reply : Reply)
      → ruled_reply r.schema.name (create_reply r.schema p.moment) ruled ≡ Some reply → CreatesTable n p r reply q
  by_effect ruled own reply is = inl (commanded n p q (request.CreateTable r) r.schema.name (Create r.schema) refl ruled own reply is)

  by_fault : (fault : SchemaFault) (told : CatalogAnswer) (reply : Reply) → first_fault (stated_of r.schema) ≡ Some fault → answer.BadSchema fault ≡ told
      → One n p (Message.Command (Create r.schema)) (Answer.Refused told) q → create_told new told ≡ Some reply → CreatesTable n p r reply q
  by_fault fault told reply found is own told_is =
      inr (record {
        fault = fault;
        own = subst (λ x. One n p (Message.Command (Create r.schema)) (Answer.Refused x) q) (sym is) own;
        first = subst (TellsFirst (stated_of r.schema)) found (faults.answered (stated_of r.schema));
        is = sym (some_parts _ reply (subst (λ x. create_told new x ≡ Some reply) (sym is) told_is));
      })

  created : (ruled : Ruled) → One n p (Message.Command (Create r.schema)) (ruled_answer ruled) q → (reply : Reply)
      → ruled_reply new.name (create_told new) ruled ≡ Some reply → CreatesTable n p r reply q
  created (Ruled.Changed told) own reply is =
      let it = made_told told own in
      by_effect (Ruled.Changed told) own reply (as_told (answer.Made it.0) told reply it.1 refl is)
  created (Ruled.Refused told) own reply is =
      elim (not_made told own) [
        | inl it ↦ by_effect (Ruled.Refused told) own reply (as_told answer.Exists told reply it refl is)
        | inr (inl it) ↦ by_effect (Ruled.Refused told) own reply (as_told answer.Full told reply it refl is)
        | inr (inr bad) ↦ by_fault bad.0 told reply bad.1 bad.2 own is
      ]
  created (Ruled.Held number) own reply is =
      by_effect (Ruled.Held number) own reply is

-- of a copy of that schema which was made before
module _ (n : ℕ) (p : PassView TableEvent) (q : PassView TableEvent) (r : CreateTable) (copy : Schema) (moment : ℕ)
    (made_is : copy ≡ made_at moment r.schema) (now : moment ≡ p.moment) where
  same : made_at p.moment r.schema ≡ copy
  same = ap (λ m. made_at m r.schema) (sym now) ∙ sym made_is

  pub create_told_of : (ruled : Ruled) → One n p (Message.Command (Create r.schema)) (ruled_answer ruled) q
      → IsTrue (is_some (ruled_reply copy.name (create_told copy) ruled))
  create_told_of ruled own = subst (λ s. IsTrue (is_some (ruled_reply s.name (create_told s) ruled))) same (created_told n p q r ruled own)

  pub created_of : (ruled : Ruled) → One n p (Message.Command (Create r.schema)) (ruled_answer ruled) q → (reply : Reply)
      → ruled_reply copy.name (create_told copy) ruled ≡ Some reply → CreatesTable n p r reply q
  created_of ruled own reply is =
      created n p q r ruled own reply (subst (λ s. ruled_reply s.name (create_told s) ruled ≡ Some reply) (sym same) is)
