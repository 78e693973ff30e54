-- A step and the history: what a pass sees after it is what it saw before, others' newer entries on it, and its own on these.
use Rattle.std.proofs.Common.{◌≡◌, ◌∷◌, ◌++◌, Option, ℕ, reverse, sym, ap, ◌∙◌, subst}
use Rattle.turnstile.specs.Passes.{PassView}
use Rattle.txn_core.specs.Service.{Service, Asked, Reply, Event}
use Rattle.txn_core.specs.Legal.{IsLegal}
use Rattle.txn_core.proofs.Exports.{newest, beginning_is_tail}
use Rattle.cluster.specs.Events.{event_of}
use Rattle.cluster.specs.Steps.{Adds, IsLater}

module _ {K V A F C D Q B : Type 0} (S : Service K V A F C D Q B) where
  pub is_later :
      (p q : PassView (Event S)) (cell : Option ℕ) (m : Asked S) (a : Reply S) → Adds S p cell m a q
      → IsLater S (reverse p.front) (event_of p cell m a) (reverse q.front)
  is_later p q cell m a adds =
      let e : Event S = event_of p cell m a in
      let past = adds.ends.past in
      let rest = adds.ends.none.rest in
      let whole : e ∷ (reverse rest ++ reverse p.front) ≡ reverse q.front =
      ap (λ es. e ∷ es) (sym (beginning_is_tail p.front rest) ∙ ap reverse adds.ends.none.is)
      ∙ (sym (newest past e) ∙ ap reverse adds.ends.is) in
      record { newer = reverse rest; legal = subst (IsLegal S) (sym whole) adds.legal; is = whole }
