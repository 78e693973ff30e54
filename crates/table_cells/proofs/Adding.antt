-- An entry that was counted, and is the newest of a later history, is the one that a step added.
use Rattle.std.proofs.Common.{◌≡◌, ℕ, ◌+◌, List, [], ◌∷◌, ◌++◌, Option, reverse, refl, sym, ap, subst, ◌∙◌, arith, append_assoc}
use Rattle.std.proofs.lemmas.List.{append_cancel_left, append_cancel_right, reverse-append, reverse-reverse}
use Rattle.turnstile.specs.Histories.{own}
use Rattle.turnstile.specs.Passes.{PassView}
use Rattle.turnstile.proofs.Histories.{own_mine}
use Rattle.txn_core.specs.Service.{Service, Asked, Reply, Event, History}
use Rattle.txn_core.specs.Legal.{IsLegal}
use Rattle.cluster.specs.Events.{pass_of, event_of}
use Rattle.cluster.specs.Steps.{Adds, IsLater}
use Rattle.cluster.specs.Counts.{Counts}

-- a list turned round begins where the other ends
turned : {X : Type 0} (front newer : List X) (e : X) → reverse (e ∷ (newer ++ reverse front)) ≡ (front ++ reverse newer) ++ e ∷ []
turned front newer e =
    reverse-append (e ∷ []) (newer ++ reverse front)
    ∙ ap (λ l. l ++ e ∷ []) (reverse-append newer (reverse front) ∙ ap (λ l. l ++ reverse newer) (reverse-reverse front))

module _ {K V A F C D Q B : Type 0} (S : Service K V A F C D Q B) where
  pub adds_of :
      (p q : PassView (Event S)) (cell : Option ℕ) (m : Asked S) (a : Reply S)
      → IsLater S (reverse p.front) (event_of p cell m a) (reverse q.front) → Counts S p (event_of p cell m a ∷ []) 0 q → Adds S p cell m a q
  adds_of p q cell m a later counts =
      let e : Event S = event_of p cell m a in
      let past : History S = p.front ++ reverse later.newer in
      let units = counts.units in
      let used : q.used ≡ p.used + 1 = omega arith in
      let whole : past ++ e ∷ [] ≡ q.front =
      sym (turned p.front later.newer e) ∙ (ap reverse later.is ∙ reverse-reverse q.front) in
      let grown : counts.trail.rest ≡ reverse later.newer ++ e ∷ [] =
      append_cancel_left p.front counts.trail.rest (reverse later.newer ++ e ∷ [])
      (counts.trail.is ∙ (sym whole ∙ append_assoc p.front (reverse later.newer) (e ∷ []))) in
      let mine : own pass_of p.number (reverse later.newer) ++ e ∷ [] ≡ e ∷ [] =
      sym (own_mine pass_of p.number (reverse later.newer) e refl) ∙ (ap (own pass_of p.number) (sym grown) ∙ counts.trail.mine) in
      record {
        pass = counts.pass ∙ (λ j. record p { used = used j; front = q.front });
        ends = record {
          past = past;
          none = record { rest = reverse later.newer; is = refl; mine = append_cancel_right (own pass_of p.number (reverse later.newer)) [] (e ∷ []) mine };
          is = whole;
        };
        legal = subst (IsLegal S) later.is later.legal;
      }
