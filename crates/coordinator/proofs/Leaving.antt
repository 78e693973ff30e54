-- Which transactions own entries leave between their decision and their end.
use Rattle.std.proofs.Common.{◌≡◌, ◌⊎◌, inl, inr, ℕ, Bool, true, false, List, [], ◌∷◌, ◌++◌, sym, ◌∙◌, subst}
use Rattle.std.proofs.lemmas.Bool.{eqb-true, or_cases}
use Rattle.std.proofs.lemmas.List.Folds.{list_any-append}
use Rattle.turnstile.specs.Passes.{PassView}
use Rattle.txn_core.specs.declared.message.Message.{Message}
use Rattle.txn_core.specs.Service.{Service, Asked, Event}
use Rattle.cluster.proofs.Lists.{any_back, any_front}
use Rattle.coordinator.specs.declared.drive_end.DriveEnd.{DriveEnd}
use Rattle.coordinator.specs.Driving.{is_driving, is_ending, is_done, finds_none, AllDrive, found_none, ended, sent_done}
use Rattle.coordinator.specs.Drives.{IsEnd, LeavesNoneDecided}

-- the gate stopped the drive, or no unit was left for it
abbrev pub is_cut : {V F : Type 0} → DriveEnd V F → Bool
is_cut DriveEnd.Stopped = true
is_cut DriveEnd.Spent = true
is_cut _ = false

module _ {K V A F C D Q B : Type 0} (S : Service K V A F C D Q B) where
  -- a number came to its end by these entries, or one of them found no record of it
  abbrev pub Comes : ℕ → List (Event S) → Type 0
  Comes n own = (sent_done S n own ≡ true) ⊎ (found_none S n own ≡ true)

  -- a number that a message decides or ends is the one that it drives
  pub ends_its_own : (n m : ℕ) (x : Asked S) → is_ending n x ≡ true → is_driving m x ≡ true → n ≡ m
  ends_its_own n m (Message.Decide k commit reasons) ends drives = sym (eqb-true k n ends) ∙ eqb-true k m drives
  ends_its_own n m (Message.Apply k key) ends drives = sym (eqb-true k n ends) ∙ eqb-true k m drives
  ends_its_own n m (Message.Release k key) ends drives = sym (eqb-true k n ends) ∙ eqb-true k m drives
  ends_its_own n m (Message.Done k) ends drives = sym (eqb-true k n ends) ∙ eqb-true k m drives
  ends_its_own n m _ ends drives = absurd (cc)

  ended_is : (n m : ℕ) (own : List (Event S)) → AllDrive S m own → ended S n own ≡ true → n ≡ m
  ended_is n m [] each h = absurd (cc)
  ended_is n m (e ∷ own) each h = elim (or_cases (is_ending n e.message) (ended S n own) h) [
    | inl now ↦ ends_its_own n m e.message now each.0
    | inr older ↦ ended_is n m own each.1 older
  ]

  -- so entries that drive one number leave none where that one comes to its end
  pub one_leaves :
      (n : ℕ) (own : List (Event S)) → AllDrive S n own → (ended S n own ≡ true → Comes n own) → LeavesNoneDecided S own
  one_leaves n own each last m h =
      let same = ended_is m n own each h in
      subst (λ k. Comes k own) (sym same) (last (subst (λ k. ended S k own ≡ true) same h))

  -- entries that decide nothing and end nothing
  pub quiet_leaves : (own : List (Event S)) → ((n : ℕ) → ended S n own ≡ false) → LeavesNoneDecided S own
  quiet_leaves own none n h = absurd (let e = none n in cc)

  -- some entries and then others
  pub both_leave :
      (xs ys : List (Event S)) → LeavesNoneDecided S xs → LeavesNoneDecided S ys → LeavesNoneDecided S (xs ++ ys)
  both_leave xs ys one two n h =
      by_turn (or_cases (ended S n xs) (ended S n ys) (sym (list_any-append (λ e. is_ending n e.message) xs ys) ∙ h))
    where
      before : Comes n xs → Comes n (xs ++ ys)
      before (inl done) = inl (any_front (λ e. is_done n e.message) xs ys done)
      before (inr none) = inr (any_front (λ e. finds_none n e.message e.answer) xs ys none)

      behind : Comes n ys → Comes n (xs ++ ys)
      behind (inl done) = inl (any_back (λ e. is_done n e.message) xs ys done)
      behind (inr none) = inr (any_back (λ e. finds_none n e.message e.answer) xs ys none)

      by_turn : (ended S n xs ≡ true) ⊎ (ended S n ys ≡ true) → Comes n (xs ++ ys)
      by_turn (inl old) = before (one n old)
      by_turn (inr now) = behind (two n now)

  -- a drive that was not cut off leaves none
  module _ (q : PassView (Event S)) (n : ℕ) (own : List (Event S)) (each : AllDrive S n own) where
    comes : (ended S n own ≡ false) ⊎ (sent_done S n own ≡ true) → ended S n own ≡ true → Comes n own
    comes (inl undecided) h = absurd (cc)
    comes (inr done) h = inl done

    pub end_leaves : (driven : DriveEnd V F) → IsEnd S q n own driven → is_cut driven ≡ false → LeavesNoneDecided S own
    end_leaves DriveEnd.Committed is calm = one_leaves n own each (λ _. inl is.cause.1)
    end_leaves (DriveEnd.Cancelled reasons) is calm = one_leaves n own each (λ _. inl is.cause.0.done)
    end_leaves (DriveEnd.NoTable place) is calm = one_leaves n own each (λ _. inl is.cause.1.done)
    end_leaves DriveEnd.Gone is calm = one_leaves n own each (λ _. inr (sym is.gone))
    end_leaves DriveEnd.NoMemory is calm = one_leaves n own each (comes is.cause)
    end_leaves DriveEnd.Stopped is calm = absurd (cc)
    end_leaves DriveEnd.Spent is calm = absurd (cc)
