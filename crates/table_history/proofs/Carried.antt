-- What an entry of a legal history does to the catalog: nothing, or a command is carried out that nothing refused.
use Rattle.std.specs.Prelude.{◌⊎◌}
use Rattle.std.proofs.Common.{◌≡◌, ℕ, Bool, true, false, List, ◌∷◌, Option, None, Some, refl, sym, ap, subst, ◌∙◌, inl, inr}
use Rattle.attr_value.specs.Tree.{Attributes}
use Rattle.txn_core.specs.declared.message.Message.{Message}
use Rattle.txn_core.specs.declared.answer.Answer.{Answer}
use Rattle.txn_core.specs.declared.fate.Fate.{Fate}
use Rattle.txn_core.specs.declared.ruling.Ruling.{Ruling}
use Rattle.txn_core.specs.declared.ruling.Ruling.TheVariants.{Carries, Refuses}
use Rattle.txn_core.specs.Effects.{Effect, Wrote}
use Rattle.txn_core.specs.State.{State}
use Rattle.txn_core.specs.Serial.{serial, catalog_of}
use Rattle.txn_core.specs.History.{is_expired, is_written, where_so, decide_effect, effects}
use Rattle.txn_core.specs.Legal.{state, IsRuled, ruling_answer, IsAnswer, IsLegal}
use Rattle.txn_core.specs.Laws.{catalog_by}
use Rattle.txn_core.proofs.Exports.{catalog_is_serial, others_leave_the_order}
use Rattle.cell_model.specs.declared.key.CellKey.{CellKey}
use Rattle.cell_model.specs.declared.catalog.Catalog.{Catalog}
use Rattle.cell_model.specs.declared.command.CatalogCommand.{CatalogCommand}
use Rattle.cell_model.specs.declared.answer.CatalogAnswer.{CatalogAnswer}
use Rattle.cell_model.specs.Actions.{ItemAction}
use Rattle.cell_model.specs.Commands.{refusal, ruling, catalog_after}
use Rattle.cell_model.specs.KeptCatalogs.{IsCarried}
use Rattle.cell_model.specs.Service.{protocol, service}
use Rattle.cell_model.proofs.Lawful.{service_lawful}
use Rattle.table_history.specs.Entries.{TableMessage, TableAnswer, TableEvent}

-- a command was carried out on the catalog
pub record IsCarriedOut (before after : Catalog) (moment : ℕ) : Type 0 where
  pub command : CatalogCommand
  pub free : refusal command before ≡ None
  pub carried : IsCarried (ruling command before)
  pub leaves : after ≡ catalog_after command moment before

-- ---- a command's answer

-- the command was carried out on the catalog, or refused, and this was told
abbrev pub Carried : CatalogCommand → CatalogAnswer → Catalog → Type 0
Carried d told c = (refusal d c ≡ None) × (ruling d c ≡ Carries told)

abbrev pub Denied : CatalogCommand → CatalogAnswer → Catalog → Type 0
Denied d told c = (refusal d c ≡ Some told) ⊎ ((refusal d c ≡ None) × (ruling d c ≡ Refuses told))

module _ (n : ℕ) where
  carries : (r : Ruling CatalogAnswer) (told : CatalogAnswer) → Answer.Changed told ≡ ruling_answer (service n) r → r ≡ Carries told
  carries (Carries other) told e = let same : other ≡ told = cc in ap Carries same
  carries (Refuses other) told e = absurd (cc)

  refuses : (r : Ruling CatalogAnswer) (told : CatalogAnswer) → Answer.Refused told ≡ ruling_answer (service n) r → r ≡ Refuses told
  refuses (Carries other) told e = absurd (cc)
  refuses (Refuses other) told e = let same : other ≡ told = cc in ap Refuses same

  module _ (w : State CellKey Attributes ItemAction Catalog) (d : CatalogCommand) (moment : ℕ) (told : CatalogAnswer) where
    ruled : (o : Option CatalogAnswer) → refusal d w.catalog ≡ o → IsRuled (service n) w d moment o (Answer.Changed told) → Carried d told w.catalog
    ruled (Some why) e is = absurd (cc)
    ruled None e is =
        elim is [ inl held ↦ let h = held.1 in absurd (cc) | inr said ↦ (e, carries (ruling d w.catalog) told said.0) ]

    denied : (o : Option CatalogAnswer) → refusal d w.catalog ≡ o → IsRuled (service n) w d moment o (Answer.Refused told) → Denied d told w.catalog
    denied (Some why) e is = let same : why ≡ told = cc in inl (e ∙ ap Some same)
    denied None e is =
        elim is [ inl held ↦ let h = held.1 in absurd (cc) | inr said ↦ inr (e, refuses (ruling d w.catalog) told said.0) ]

-- by the catalog that the one order makes
module _ (n : ℕ) (es : List TableEvent) (d : CatalogCommand) (moment : ℕ) (told : CatalogAnswer) where
  read : (state (service n) es).catalog ≡ catalog_by (service n) es
  read = catalog_is_serial (service n) (service_lawful n) es

  pub carried_by : IsAnswer (service n) es moment (Message.Command d) (Answer.Changed told) → Carried d told (catalog_by (service n) es)
  carried_by is =
      subst (Carried d told) read (ruled n (state (service n) es) d moment told (refusal d (state (service n) es).catalog) refl is)

  pub denied_by : IsAnswer (service n) es moment (Message.Command d) (Answer.Refused told) → Denied d told (catalog_by (service n) es)
  denied_by is =
      subst (Denied d told) read (denied n (state (service n) es) d moment told (refusal d (state (service n) es).catalog) refl is)

-- ---- an entry

module _ (n : ℕ) (es : List TableEvent) where
  abbrev before : Catalog
  before = catalog_by (service n) es

  -- the catalog after an entry of this effect
  abbrev then_is : Effect CellKey ItemAction CatalogCommand → Catalog
  then_is x = catalog_of (protocol n) (serial (x ∷ effects es))

  written : (b : Bool) (action : ItemAction) (moment : ℕ) → then_is (where_so b (Wrote action moment)) ≡ before
  written true action moment = refl
  written false action moment = refl

  decided : (number : ℕ) (a : TableAnswer) → then_is (decide_effect number a) ≡ before
  decided number (Answer.Decided Fate.Committed true) = refl
  decided number (Answer.Decided Fate.Committed false) = refl
  decided number (Answer.Decided Fate.Cancelled true) = refl
  decided number (Answer.Decided Fate.Cancelled false) = refl
  decided number (Answer.Decided Fate.Undecided first) = refl
  decided number (Answer.Decided Fate.Gone first) = refl
  decided number _ = refl

  commanded : (d : CatalogCommand) (moment : ℕ) (told : CatalogAnswer) → IsAnswer (service n) es moment (Message.Command d) (Answer.Changed told)
      → IsCarriedOut before (catalog_after d moment before) moment
  commanded d moment told is =
      let done = carried_by n es d moment told is in
      record { command = d; free = done.0; carried = subst IsCarried (sym done.1) tt; leaves = refl }

  module _ (e : TableEvent) where
    -- the entry with another message and answer
    abbrev entry : TableMessage → TableAnswer → TableEvent
    entry m a = record { pass = e.pass; cell = e.cell; message = m; answer = a; moment = e.moment }

    abbrev Does : TableMessage → TableAnswer → Type 0
    Does m a =
        (catalog_by (service n) (entry m a ∷ es) ≡ before) ⊎ IsCarriedOut before (catalog_by (service n) (entry m a ∷ es)) e.moment

    by_command : (d : CatalogCommand) (a : TableAnswer) → IsAnswer (service n) es e.moment (Message.Command d) a → Does (Message.Command d) a
    by_command d (Answer.Changed told) is = inr (commanded d e.moment told is)
    by_command d _ is = inl refl

    by_message : (m : TableMessage) (a : TableAnswer) → IsAnswer (service n) es e.moment m a → Does m a
    by_message (Message.Command d) a is = by_command d a is
    by_message (Message.Write action) a is = inl (written (is_written a) action e.moment)
    by_message (Message.Expire action) a is = inl (written (is_expired a) action e.moment)
    by_message (Message.Decide number commit reasons) a is = inl (decided number a)
    by_message m a is = inl (ap (catalog_of (protocol n)) (others_leave_the_order (entry m a) es refl))

pub entry_does : (n : ℕ) (e : TableEvent) (es : List TableEvent) → IsLegal (service n) (e ∷ es)
    → (catalog_by (service n) (e ∷ es) ≡ catalog_by (service n) es) ⊎ IsCarriedOut (catalog_by (service n) es) (catalog_by (service n) (e ∷ es)) e.moment
entry_does n e es legal = by_message n es e e.message e.answer legal.1.answer
