-- What a transaction of writes binds.
use Rattle.std.specs.List.{filter, AllByRecursion}
use Rattle.std.proofs.Common.{◌≡◌, ℕ, Bool, true, false, cond, List, [], ◌∷◌, Option, refl, ◌∙◌, subst, inl, inr}
use Rattle.turnstile.specs.Passes.{PassView}
use Rattle.txn_core.specs.declared.message.Message.{Message}
use Rattle.txn_core.specs.declared.answer.Answer.{Answer}
use Rattle.txn_core.specs.Replay.{are_apart}
use Rattle.coordinator.specs.declared.transact_end.TransactEnd.{TransactEnd}
use Rattle.coordinator.specs.Writes.{draws_some, IsOfWrite}
use Rattle.cell_model.specs.Actions.{ItemAction}
use Rattle.cell_model.specs.Service.{service}
use Rattle.table_history.specs.Entries.{TableMessage, TableAnswer, TableEvent}
use Rattle.cell_asks.specs.Steps.{binds, bound, IsInVain}
use Rattle.cell_asks.proofs.Trails.{in_vain}
use Rattle.transact_asks.specs.Several.{WritesEnd, WritesAll}
use Rattle.transact_asks.proofs.Turned.{stale_is_quiet}

module _ (n : ℕ) (token : Option (List ℕ)) (actions : List ItemAction) where
  abbrev IsOf : TableMessage → Type 0
  IsOf m = IsOfWrite (service n) token actions m

  begin_binds : (t : Option (List ℕ)) (xs : List ItemAction) (a : TableAnswer) → binds (Message.Begin t xs) a ≡ draws_some (let m : TableMessage = Message.Begin t xs in m) a
  begin_binds t xs (Answer.Begun number stamp) = refl
  begin_binds t xs _ = refl

  -- a message of the writing binds where it draws a number
  binds_of : (m : TableMessage) (a : TableAnswer) → IsOf m → binds m a ≡ draws_some m a
  binds_of (Message.Begin t xs) a h = begin_binds t xs a
  binds_of (Message.Prepare number stamp action) a h = refl
  binds_of (Message.Decide number commit reasons) a h = refl
  binds_of (Message.Apply number key) a h = refl
  binds_of (Message.Release number key) a h = refl
  binds_of (Message.Done number) a h = refl
  binds_of (Message.Forget number) a h = refl
  binds_of (Message.Recall number) a h = refl
  binds_of _ a h = absurd h

  -- and then it is a Begin of these actions
  begins : (m : TableMessage) (a : TableAnswer) → IsOf m → binds m a ≡ true → m ≡ Message.Begin token actions
  begins (Message.Begin t xs) a h is = λ i. Message.Begin (h.0 i) (h.1 i)
  begins (Message.Prepare number stamp action) a h is = absurd (cc)
  begins (Message.Decide number commit reasons) a h is = absurd (cc)
  begins (Message.Apply number key) a h is = absurd (cc)
  begins (Message.Release number key) a h is = absurd (cc)
  begins (Message.Done number) a h is = absurd (cc)
  begins (Message.Forget number) a h is = absurd (cc)
  begins (Message.Recall number) a h is = absurd (cc)
  begins _ a h is = absurd h

  pub bound_is : (own : List TableEvent) → AllByRecursion (λ e. IsOf e.message) own → bound own ≡ filter (λ e. draws_some e.message e.answer) own
  bound_is [] each = refl
  bound_is (e ∷ own) each = λ i. cond (binds_of e.message e.answer each.0 i) (e ∷ bound_is own each.1 i) (bound_is own each.1 i)

  pub each_begins : (own : List TableEvent) → AllByRecursion (λ e. IsOf e.message) own
      → AllByRecursion (λ e. binds e.message e.answer ≡ true → e.message ≡ Message.Begin token actions) own
  each_begins [] each = tt
  each_begins (e ∷ own) each = (begins e.message e.answer each.0, each_begins own each.1)

  -- where a table was gone before anything was begun, nothing was bound
  pub stale_in_vain : (p q : PassView TableEvent) (end : WritesEnd) → end ≡ TransactEnd.Stale → WritesAll n p token actions end q → IsInVain n p q
  stale_in_vain p q end is wrote = by_test (are_apart (service n).core actions) refl
    where
      all : WritesAll n p token actions TransactEnd.Stale q
      all = subst (λ e. WritesAll n p token actions e q) is wrote

      by_test : (b : Bool) → are_apart (service n).core actions ≡ b → IsInVain n p q
      by_test true apart =
          let quiet = stale_is_quiet (service n) token actions p q (all.turns apart) in
          in_vain n p quiet.0.own q quiet.0.counts (bound_is quiet.0.own quiet.0.each ∙ quiet.0.none) quiet.1
      by_test false twice =
          elim (all.twice twice).1 [
            | inl e ↦ absurd (cc)
            | inr e ↦ absurd (cc)
          ]
