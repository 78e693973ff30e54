-- What a command is answered as planned, and what carrying it out leaves.
use Rattle.std.proofs.Common.{◌≡◌, ℕ, inr, refl, sym, ap, ◌∙◌, subst}
use Rattle.txn_core.specs.declared.message.Message.{Message}
use Rattle.txn_core.specs.declared.answer.Answer.{Answer}
use Rattle.txn_core.specs.Service.{Service}
use Rattle.txn_core.specs.History.{reasons_of, kept}
use Rattle.txn_core.specs.Legal.{state, IsRuled, ruling_answer}
use Rattle.control_cell.specs.declared.cell.ControlCell.{ControlCell}
use Rattle.control_cell.specs.declared.commands.CatalogPlan.{CatalogPlan}
use Rattle.control_cell.specs.declared.commands.CatalogPlan.TheVariants.{Refused, Denied, Carried}
use Rattle.control_cell.specs.Keeping.{Keeps}
use Rattle.control_cell.specs.Plans.{IsPlan, PlanAnswers, TakesPlan}
use Rattle.control_cell.proofs.Entries.{holds_by}

module _ {R K V A F C D Q B : Type 0} (S : Service K V A F C D Q B) where
  pub plan_answers :
      (cell : ControlCell R K V A F C D Q B) (d : D) (moment : ℕ) (plan : CatalogPlan B C) → IsPlan S cell.catalog d moment plan
      → PlanAnswers S cell d moment plan
  plan_answers cell d moment (Refused told) is es h goes =
      subst (λ o. IsRuled S (state S es) d moment o (Answer.Refused told)) (sym is ∙ ap (S.refuses d) h.catalog_is) refl
  plan_answers cell d moment (Denied told) is es h goes =
      subst (λ o. IsRuled S (state S es) d moment o (Answer.Refused told)) (sym is.0 ∙ ap (S.refuses d) h.catalog_is)
      (inr (ap (ruling_answer S) (sym is.1 ∙ ap (S.rules d moment) h.catalog_is), goes))
  plan_answers cell d moment (Carried told next) is es h goes =
      subst (λ o. IsRuled S (state S es) d moment o (Answer.Changed told)) (sym is.0 ∙ ap (S.refuses d) h.catalog_is)
      (inr (ap (ruling_answer S) (sym is.1.0 ∙ ap (S.rules d moment) h.catalog_is), goes))

  pub plan_taken : (old new : ControlCell R K V A F C D Q B) (moment : ℕ) → new.ledger ≡ old.ledger → TakesPlan S old new moment new.catalog
  plan_taken old new moment same es e d told h next is =
      holds_by S es e moment (Message.Command d) (Answer.Changed told) new is
      (record {
        catalog_is = next ∙ ap (S.core.change d moment) h.catalog_is;
        keeps = subst (λ l. Keeps (state S es).ledger (reasons_of es) (kept es) l) (sym same) h.keeps;
      })
