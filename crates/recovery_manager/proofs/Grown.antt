-- What a pass knew, it knows when it has seen more.
use Rattle.std.proofs.Common.{◌≡◌, ◌⊎◌, inl, inr, ℕ, ◌+◌, ◌*◌, ◌≤◌, Bool, List, [], ◌∷◌, ◌++◌, length, reverse, refl, sym, ap, ◌∙◌, subst, arith}
use Rattle.std.proofs.lemmas.List.Sums.{sum_by-cons}
use Rattle.turnstile.specs.Histories.{Trail}
use Rattle.turnstile.specs.Passes.{PassView}
use Rattle.txn_core.specs.History.{effects, Had, begins, commits, cancels, forgets}
use Rattle.txn_core.specs.Legal.{IsLegal}
use Rattle.txn_core.specs.Serial.{begun_stamp, begun_actions}
use Rattle.txn_core.specs.Service.{Service, IsServiceLawful, Asked, Reply, Event, History}
use Rattle.txn_core.proofs.Exports.{beginning_is_tail, begun_stays, had_stays}
use Rattle.cluster.specs.Events.{pass_of}
use Rattle.cluster.specs.Counts.{Counts}
use Rattle.coordinator.specs.Driving.{is_done, finds_none, Added}
use Rattle.coordinator.proofs.Moving.{added_by}
use Rattle.recovery_manager.specs.Ends.{IsDone, IsForgotten}
use Rattle.recovery_manager.specs.Lists.{AllBegun}
use Rattle.recovery_manager.specs.Parts.{most_drives}
use Rattle.cluster.proofs.Lists.{any_front}

module _ {K V A F C D Q B : Type 0} (S : Service K V A F C D Q B) where
  -- what was counted for one unit each was added
  pub counted : (p : PassView (Event S)) (own : List (Event S)) (more : ℕ) (q : PassView (Event S)) → Counts S p own more q → Added S more p own q
  counted p own more q counts = added_by S more more p own q (omega arith) counts

  -- more units than that
  pub with_more : (s t : ℕ) (p : PassView (Event S)) (own : List (Event S)) (q : PassView (Event S)) → s ≤ t → Added S s p own q → Added S t p own q
  with_more s t p own q le added = let units = added.units in record { pass = added.pass; trail = added.trail; moments = added.moments; units = omega arith }

  module _ (k : ℕ) (old own new : List (Event S)) (trail : Trail pass_of k old own new) where
    abbrev newer : History S
    newer = reverse trail.rest

    whole : reverse new ≡ newer ++ reverse old
    whole = ap reverse (sym trail.is) ∙ beginning_is_tail old trail.rest

    pub still_had : (test : Asked S → Reply S → Bool) → Had test (reverse old) → Had test (reverse new)
    still_had test h = subst (λ es. Had test es) (sym whole) (had_stays test newer (reverse old) h)

    pub still_begun : (numbers : List ℕ) → AllBegun S (reverse old) numbers → AllBegun S (reverse new) numbers
    still_begun [] h = tt
    still_begun (n ∷ numbers) h = (still_had (begins n) h.0, still_begun numbers h.1)

    module _ (before more : List (Event S)) (n : ℕ) where
      pub still_done : IsDone S (reverse old) before n → IsDone S (reverse new) (before ++ more) n
      still_done h = record { decided = decided h.decided; done = any_front (λ e. is_done n e.message) before more h.done }
        where
          decided : Had (commits n) (reverse old) ⊎ Had (cancels n) (reverse old) → Had (commits n) (reverse new) ⊎ Had (cancels n) (reverse new)
          decided (inl c) = inl (still_had (commits n) c)
          decided (inr c) = inr (still_had (cancels n) c)

      pub still_forgotten : IsForgotten S (reverse old) before n → IsForgotten S (reverse new) (before ++ more) n
      still_forgotten h =
          record {
            forgotten = still_had (forgets n) h.forgotten;
            found = any_front (λ e. finds_none n e.message e.answer) before more h.found;
          }

    module _ (law : IsServiceLawful S) (legal : IsLegal S (reverse new)) where
      -- the actions of a begun number stay
      pub same_actions : (n : ℕ) → Had (begins n) (reverse old) → begun_actions (effects (reverse new)) n ≡ begun_actions (effects (reverse old)) n
      same_actions n begun =
          let es : History S = reverse old in
          ap (λ (xs : History S). begun_actions (effects xs) n) whole
          ∙ (begun_stays S law newer es (subst (IsLegal S) whole legal) n (begun_stamp (effects es) n) (begun_actions (effects es) n)
          record { begun = begun; its_stamp = refl; its_actions = refl }).its_actions

      pub same_most : (numbers : List ℕ) → AllBegun S (reverse old) numbers → most_drives S (reverse new) numbers ≡ most_drives S (reverse old) numbers
      same_most [] h = refl
      same_most (n ∷ numbers) h =
          let first = sum_by-cons (λ m. 2 * length (begun_actions (effects (reverse new)) m) + 4) n numbers in
          let before = sum_by-cons (λ m. 2 * length (begun_actions (effects (reverse old)) m) + 4) n numbers in
          let rest = same_most numbers h.1 in
          let its = ap length (same_actions n h.0) in
          omega arith
