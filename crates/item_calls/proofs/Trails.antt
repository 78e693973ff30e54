-- What a write comes to, message by message.
use Rattle.std.proofs.Common.{◌≡◌, ℕ, Option, refl, ap, subst, ◌∙◌, inl, inr}
use Rattle.turnstile.specs.Passes.{PassView}
use Rattle.txn_core.specs.declared.message.Message.{Message}
use Rattle.txn_core.specs.declared.answer.Answer.{Answer}
use Rattle.table_model.specs.declared.reply.Reply.{Reply}
use Rattle.cluster.specs.declared.step.StepError.{StepError}
use Rattle.cell_model.specs.Actions.{ItemAction}
use Rattle.table_history.specs.Entries.{TableAnswer, TableEvent}
use Rattle.cell_asks.specs.declared.asks.Wrote.{Wrote}
use Rattle.cell_asks.specs.declared.tried.Tried.{Tried}
use Rattle.cell_asks.specs.Steps.{One}
use Rattle.cell_asks.specs.Answers.{wrote_answer}
use Rattle.cell_asks.proofs.Trails.{not_told}
use Rattle.item_calls.specs.Answers.{WroteAt, WriteStops, tried_if, write_tried}

-- memory was refused for its reply
pub write_stops : (n : ℕ) (p : PassView TableEvent) (action : ItemAction) (wrote : Wrote) (q : PassView TableEvent)
    → One n p (Message.Write action) (wrote_answer wrote) q → WriteStops n p action StepError.NoMemory q
write_stops n p action (Wrote.Written old new) q one = inr (refl, record { old = old; new = new; one = one })
write_stops n p action (Wrote.Held number) q one = inl (not_told n p (Message.Write action) (Answer.Held number) q one refl)
write_stops n p action (Wrote.CondFalse old) q one = inl (not_told n p (Message.Write action) (Answer.CondFalse old) q one refl)
write_stops n p action (Wrote.Invalid fault) q one = inl (not_told n p (Message.Write action) (Answer.Invalid fault) q one refl)
write_stops n p action Wrote.Stale q one = inl (not_told n p (Message.Write action) Answer.Stale q one refl)

module _ (n : ℕ) (p : PassView TableEvent) (action other : ItemAction) (same : action ≡ other) where
  told_alike : (f g : TableAnswer → Option Reply) → ((a : TableAnswer) → f a ≡ g a) → (wrote : Wrote) → write_tried f wrote ≡ write_tried g wrote
  told_alike f g alike (Wrote.Written old new) = ap tried_if (alike (Answer.Written old new))
  told_alike f g alike (Wrote.Held number) = refl
  told_alike f g alike (Wrote.CondFalse old) = ap tried_if (alike (Answer.CondFalse old))
  told_alike f g alike (Wrote.Invalid fault) = ap tried_if (alike (Answer.Invalid fault))
  told_alike f g alike Wrote.Stale = refl

  -- of the same action, told alike
  pub wrote_alike : (f g : TableAnswer → Option Reply) → ((a : TableAnswer) → f a ≡ g a) → (tried : Tried) (q : PassView TableEvent) → WroteAt n p action f tried q
      → WroteAt n p other g tried q
  wrote_alike f g alike tried q at =
      subst (λ x. WroteAt n p x g tried q) same (record { wrote = at.wrote; one = at.one; is = at.is ∙ told_alike f g alike at.wrote })

  pub stops_alike : (why : StepError) (q : PassView TableEvent) → WriteStops n p action why q → WriteStops n p other why q
  stops_alike why q stops = subst (λ x. WriteStops n p x why q) same stops
