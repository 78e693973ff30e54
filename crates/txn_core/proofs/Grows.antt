-- What never goes back: numbers are drawn, decided, accepted, applied, done and forgotten for good.
use Rattle.std.proofs.Common.{◌≡◌, ℕ, ◌<◌, ◌≤◌, Bool, true, refl, ap, ◌∙◌, subst, arith}
use Rattle.std.proofs.lemmas.Bool.{cond_both}
use Rattle.txn_core.specs.declared.fate.Fate.{Fate}
use Rattle.txn_core.specs.declared.fate.Fate.TheVariants.{Undecided, Committed, Cancelled}
use Rattle.txn_core.specs.Protocol.{after, Protocol}
use Rattle.txn_core.specs.Stamps.{single}
use Rattle.txn_core.specs.Effects.{Effect, Wrote, Begun, Prepared, Commits, Cancels, Applied, Released, Finished, Forgot, Changed, Quiet}
use Rattle.txn_core.specs.State.{Spot, Tally, State, at, on_key, here, step, spot_wrote, spot_prepared, spot_applied, spot_released, tally_after, image_or, stamp_or}
use Rattle.txn_core.specs.Runs.{May}
use Rattle.txn_core.proofs.Basics.{at_split}

pub record Grows {K V A C : Type 0} (w u : State K V A C) : Type 0 where
  pub next : w.ledger.next ≤ u.ledger.next
  pub stamp : (n : ℕ) → n < w.ledger.next → u.ledger.stamp n ≡ w.ledger.stamp n
  pub actions : (n : ℕ) → n < w.ledger.next → u.ledger.actions n ≡ w.ledger.actions n
  pub committed : (n : ℕ) → w.ledger.fate n ≡ Committed → u.ledger.fate n ≡ Committed
  pub cancelled : (n : ℕ) → w.ledger.fate n ≡ Cancelled → u.ledger.fate n ≡ Cancelled
  pub done : (n : ℕ) → w.ledger.done n ≡ true → u.ledger.done n ≡ true
  pub gone : (n : ℕ) → w.ledger.gone n ≡ true → u.ledger.gone n ≡ true
  pub accepted : (q : K) (n : ℕ) → (w.spot q).accepted n ≡ true → (u.spot q).accepted n ≡ true
  pub applied : (q : K) (n : ℕ) → (w.spot q).applied n ≡ true → (u.spot q).applied n ≡ true

-- what a changed function keeps
at_true : (f : ℕ → Bool) (n m : ℕ) → f m ≡ true → at f n true m ≡ true
at_true f n m h = at_split f n true m (λ b. b ≡ true) (λ e. refl) (λ e. h)

module _ {K V A F C D : Type 0} (P : Protocol K V A F C D) (w : State K V A C) where
  grows_on_key : (k : K) (f : Spot V → Spot V) (c : Tally) → ((s : Spot V) (n : ℕ) → s.accepted n ≡ true → (f s).accepted n ≡ true) → ((s : Spot V) (n : ℕ) → s.applied n ≡ true → (f s).applied n ≡ true) → Grows w (on_key P w k f c)
  grows_on_key k f c acc app =
      record {
        next = omega arith;
        stamp = λ n h. refl;
        actions = λ n h. refl;
        committed = λ n h. h;
        cancelled = λ n h. h;
        done = λ n h. h;
        gone = λ n h. h;
        accepted = λ q n h. cond_both (P.same k q) (f (w.spot q)) (w.spot q) (λ s. s.accepted n ≡ true) (λ e. acc (w.spot q) n h) (λ e. h);
        applied = λ q n h. cond_both (P.same k q) (f (w.spot q)) (w.spot q) (λ s. s.applied n ≡ true) (λ e. app (w.spot q) n h) (λ e. h);
      }

  grows_decided : (n : ℕ) (fate : Fate) (u : State K V A C) → w.ledger.fate n ≡ Undecided → u.ledger.next ≡ w.ledger.next → u.ledger.stamp ≡ w.ledger.stamp → u.ledger.actions ≡ w.ledger.actions → u.ledger.done ≡ w.ledger.done → u.ledger.gone ≡ w.ledger.gone → u.ledger.fate ≡ at w.ledger.fate n fate → ((q : K) → (u.spot q).accepted ≡ (w.spot q).accepted) → ((q : K) → (u.spot q).applied ≡ (w.spot q).applied) → Grows w u
  grows_decided n fate u first next stamp actions done gone is acc app =
      record {
        next = omega arith;
        stamp = λ m h. ap (λ f. f m) stamp;
        actions = λ m h. ap (λ f. f m) actions;
        committed = λ m h. ap (λ f. f m) is ∙ at_split w.ledger.fate n fate m (λ x. x ≡ Committed) (λ e. let k = subst (λ x. w.ledger.fate x ≡ Undecided) e first in absurd (cc)) (λ e. h);
        cancelled = λ m h. ap (λ f. f m) is ∙ at_split w.ledger.fate n fate m (λ x. x ≡ Cancelled) (λ e. let k = subst (λ x. w.ledger.fate x ≡ Undecided) e first in absurd (cc)) (λ e. h);
        done = λ m h. ap (λ f. f m) done ∙ h;
        gone = λ m h. ap (λ f. f m) gone ∙ h;
        accepted = λ q m h. ap (λ f. f m) (acc q) ∙ h;
        applied = λ q m h. ap (λ f. f m) (app q) ∙ h;
      }

  pub grows : (e : Effect K A D) → May P w e → Grows w (step P w e)
  grows (Wrote a moment) may =
      grows_on_key (P.key_of a) (spot_wrote P w.catalog (here P w (P.key_of a)) a moment) (tally_after (here P w (P.key_of a)) (w.spot (P.key_of a)) (after (P.act w.catalog a (w.spot (P.key_of a)).row) (w.spot (P.key_of a)).row) (single moment)) (λ s n h. h) (λ s n h. h)
  grows (Prepared n stamp a) may =
      grows_on_key (P.key_of a) (spot_prepared P w.catalog n stamp a) (here P w (P.key_of a)) (λ s m h. at_true s.accepted n m h) (λ s m h. h)
  grows (Applied n k) may =
      grows_on_key k (spot_applied (here P w k) n)
      (tally_after (here P w k) (w.spot k) (image_or (w.spot k).row (w.spot k).pend) (stamp_or (w.spot k).stamp (w.spot k).pend))
      (λ s m h. h) (λ s m h. at_true s.applied n m h)
  grows (Released n k) may = grows_on_key k (λ s. spot_released s) (here P w k) (λ s m h. h) (λ s m h. h)
  grows (Begun stamp actions) may =
      record {
        next = omega arith;
        stamp = λ m h. at_split w.ledger.stamp w.ledger.next stamp m (λ x. x ≡ w.ledger.stamp m) (λ e. absurd (omega arith)) (λ e. refl);
        actions = λ m h. at_split w.ledger.actions w.ledger.next actions m (λ x. x ≡ w.ledger.actions m) (λ e. absurd (omega arith)) (λ e. refl);
        committed = λ n h. h;
        cancelled = λ n h. h;
        done = λ n h. h;
        gone = λ n h. h;
        accepted = λ q n h. h;
        applied = λ q n h. h;
      }
  grows (Commits n) may = grows_decided n Committed (step P w (Commits n)) may.first refl refl refl refl refl refl (λ q. refl) (λ q. refl)
  grows (Cancels n) may = grows_decided n Cancelled (step P w (Cancels n)) may.1 refl refl refl refl refl refl (λ q. refl) (λ q. refl)
  grows (Finished n) may =
      record {
        next = omega arith;
        stamp = λ m h. refl;
        actions = λ m h. refl;
        committed = λ m h. h;
        cancelled = λ m h. h;
        done = λ m h. at_true w.ledger.done n m h;
        gone = λ m h. h;
        accepted = λ q m h. h;
        applied = λ q m h. h;
      }
  grows (Forgot n) may =
      record {
        next = omega arith;
        stamp = λ m h. refl;
        actions = λ m h. refl;
        committed = λ m h. h;
        cancelled = λ m h. h;
        done = λ m h. h;
        gone = λ m h. at_true w.ledger.gone n m h;
        accepted = λ q m h. h;
        applied = λ q m h. h;
      }
  grows (Changed d moment) may =
      record {
        next = omega arith;
        stamp = λ m h. refl;
        actions = λ m h. refl;
        committed = λ m h. h;
        cancelled = λ m h. h;
        done = λ m h. h;
        gone = λ m h. h;
        accepted = λ q m h. h;
        applied = λ q m h. h;
      }
  grows Quiet may =
      record {
        next = omega arith;
        stamp = λ m h. refl;
        actions = λ m h. refl;
        committed = λ m h. h;
        cancelled = λ m h. h;
        done = λ m h. h;
        gone = λ m h. h;
        accepted = λ q m h. h;
        applied = λ q m h. h;
      }
