-- What a pass added, step after step.
use Rattle.std.proofs.Common.{◌≡◌, ◌≢◌, inl, inr, ℕ, ◌+◌, ◌≤◌, List, ◌++◌, length, refl, ap, ◌∙◌, subst, arith, length-append}
use Rattle.turnstile.specs.Histories.{Trail}
use Rattle.turnstile.specs.Passes.{PassView, most_units}
use Rattle.turnstile.proofs.Histories.{trail_on}
use Rattle.txn_core.specs.Service.{Service, Event}
use Rattle.cluster.specs.declared.step.StepError.{StepError}
use Rattle.cluster.specs.Events.{pass_of}
use Rattle.cluster.specs.Counts.{Counts, CountsUntil}
use Rattle.cluster.proofs.OwnEntries.{all_at_on}
use Rattle.coordinator.specs.Driving.{Added}

module _ {K V A F C D Q B : Type 0} (S : Service K V A F C D Q B) where
  -- what was counted was added
  pub added_by :
      (spare more : ℕ) (p : PassView (Event S)) (own : List (Event S)) (q : PassView (Event S)) → more ≤ spare → Counts S p own more q
      → Added S spare p own q
  added_by spare more p own q few h = let units = h.units in record { pass = h.pass; trail = h.trail; moments = h.moments; units = omega arith }

  -- and one stretch after another
  pub added_on :
      (s t : ℕ) (p q r : PassView (Event S)) (xs ys : List (Event S)) → Added S s p xs q → Added S t q ys r → Added S (s + t) p (xs ++ ys) r
  added_on s t p q r xs ys one two =
      let number : q.number ≡ p.number = ap (λ (z : PassView (Event S)). z.number) one.pass in
      let units = one.units in
      let later = two.units in
      let long = length-append xs ys in
      record {
        pass = two.pass ∙ ap (λ (z : PassView (Event S)). record z { used = r.used; front = r.front }) one.pass;
        trail =
            trail_on pass_of p.number p.front xs q.front ys r.front one.trail
            (subst (λ k. Trail pass_of k q.front ys r.front) number two.trail);
        moments = all_at_on S p q xs ys one.pass one.moments two.moments;
        units = omega arith;
      }

  pub added_after :
      (spare : ℕ) (p q r : PassView (Event S)) (xs ys : List (Event S)) → Counts S p xs 0 q → Added S spare q ys r → Added S spare p (xs ++ ys) r
  added_after spare p q r xs ys one two =
      let same : 0 + spare ≡ spare = omega arith in
      subst (λ k. Added S k p (xs ++ ys) r) same (added_on 0 spare p q r xs ys (added_by 0 0 p xs q (omega arith) one) two)

  -- what was counted until an error: one unit more at most, for want of memory alone; for want of units none is left
  module _ (p : PassView (Event S)) (own : List (Event S)) (q : PassView (Event S)) where
    pub until_added : (error : StepError) → CountsUntil S p own error q → Added S 1 p own q
    until_added StepError.Spent h = added_by 1 0 p own q (omega arith) h.0
    until_added StepError.NoMemory (inl h) = added_by 1 0 p own q (omega arith) h
    until_added StepError.NoMemory (inr h) = added_by 1 1 p own q (omega arith) h

    pub until_exact : (error : StepError) → CountsUntil S p own error q → error ≢ StepError.NoMemory → q.used ≡ p.used + length own
    until_exact StepError.Spent h sure = let units = h.0.units in omega arith
    until_exact StepError.NoMemory h sure = absurd (sure refl)

    pub until_spent : (error : StepError) → CountsUntil S p own error q → error ≡ StepError.Spent → q.used ≡ most_units
    until_spent StepError.Spent h e = h.1
    until_spent StepError.NoMemory h e = absurd (cc)

    pub exactly : Counts S p own 0 q → q.used ≡ p.used + length own
    exactly h = let units = h.units in omega arith
