-- What a pass counted, call after call.
use Rattle.std.proofs.Common.{◌≡◌, ℕ, ◌+◌, List, [], ◌∷◌, ◌++◌, Option, Result, Ok, Err, IfErr, refl, sym, ap, ◌∙◌, subst, inl, inr, arith, length-append}
use Rattle.std.specs.Prelude.{◌↔◌}
use Rattle.turnstile.specs.Histories.{Trail}
use Rattle.turnstile.specs.Passes.{PassView, most_units}
use Rattle.turnstile.proofs.Histories.{trail_end, trail_on, trail_self}
use Rattle.txn_core.specs.Service.{Service, Asked, Reply, Event}
use Rattle.cluster.specs.declared.step.StepError.{StepError}
use Rattle.cluster.specs.Events.{pass_of, event_of}
use Rattle.cluster.specs.Steps.{Adds, AddsNone}
use Rattle.cluster.specs.Counts.{AllAt, Counts, CountsUntil}
use Rattle.cluster.proofs.Lists.{each_append}

module _ {K V A F C D Q B : Type 0} (S : Service K V A F C D Q B) where
  -- nothing was counted
  pub counts_none : (p : PassView (Event S)) → Counts S p [] 0 p
  counts_none p = record { pass = refl; trail = trail_self pass_of p.number p.front; moments = tt; units = omega arith }

  -- one message was answered
  pub counts_one :
      (p q : PassView (Event S)) (cell : Option ℕ) (m : Asked S) (a : Reply S) → Adds S p cell m a q
      → Counts S p (event_of p cell m a ∷ []) 0 q
  counts_one p q cell m a adds =
      let used : q.used ≡ p.used + 1 = ap (λ (z : PassView (Event S)). z.used) adds.pass in
      record {
        pass = adds.pass ∙ (λ j. record p { used = sym used j; front = q.front });
        trail = trail_end pass_of p.number p.front (event_of p cell m a) q.front refl adds.ends;
        moments = (refl, tt);
        units = omega arith;
      }

  -- a turn was left for want of memory
  counts_turn : (p q : PassView (Event S)) → AddsNone S p q → Counts S p [] 1 q
  counts_turn p q none =
      let used : q.used ≡ p.used + 1 = ap (λ (z : PassView (Event S)). z.used) none.pass in
      record { pass = none.pass ∙ (λ j. record p { used = sym used j; front = q.front }); trail = none.trail; moments = tt; units = omega arith }

  -- the moments of one stretch and another
  pub all_at_on :
      (p q : PassView (Event S)) (xs ys : List (Event S)) → q ≡ record p { used = q.used; front = q.front } → AllAt S p.moment xs
      → AllAt S q.moment ys → AllAt S p.moment (xs ++ ys)
  all_at_on p q xs ys same one two =
      let moment : q.moment ≡ p.moment = ap (λ (z : PassView (Event S)). z.moment) same in
      each_append (λ e. e.moment ≡ p.moment) xs ys one (subst (λ k. AllAt S k ys) moment two)

  -- one stretch after another
  pub counts_on :
      (p : PassView (Event S)) (xs : List (Event S)) (a : ℕ) (q : PassView (Event S)) (ys : List (Event S)) (b : ℕ) (r : PassView (Event S))
      → Counts S p xs a q → Counts S q ys b r → Counts S p (xs ++ ys) (a + b) r
  counts_on p xs a q ys b r one two =
      let number : q.number ≡ p.number = ap (λ (z : PassView (Event S)). z.number) one.pass in
      let before = one.units in
      let after = two.units in
      let long = length-append xs ys in
      record {
        pass = two.pass ∙ ap (λ (z : PassView (Event S)). record z { used = r.used; front = r.front }) one.pass;
        trail =
            trail_on pass_of p.number p.front xs q.front ys r.front one.trail
            (subst (λ k. Trail pass_of k q.front ys r.front) number two.trail);
        moments = all_at_on p q xs ys one.pass one.moments two.moments;
        units = omega arith;
      }

  -- and of these the last ended by an error
  pub counts_until :
      (p : PassView (Event S)) (xs : List (Event S)) (q : PassView (Event S)) (ys : List (Event S)) (why : StepError) (r : PassView (Event S))
      → Counts S p xs 0 q → CountsUntil S q ys why r → CountsUntil S p (xs ++ ys) why r
  counts_until p xs q ys StepError.Spent r one two = (counts_on p xs 0 q ys 0 r one two.0, two.1)
  counts_until p xs q ys StepError.NoMemory r one (inl two) = inl (counts_on p xs 0 q ys 0 r one two)
  counts_until p xs q ys StepError.NoMemory r one (inr two) = inr (counts_on p xs 0 q ys 1 r one two)

  -- the ways out of one step by an error
  pub step_until :
      (p q : PassView (Event S)) (r : Result (Reply S) StepError) → (r ≡ Err StepError.NoMemory → AddsNone S p q)
      → (r ≡ Err StepError.Spent → q ≡ p) → (r ≡ Err StepError.Spent ↔ (p.used ≡ most_units))
      → IfErr r (λ why. CountsUntil S p [] why q)
  step_until p q (Ok a) none same spent = tt
  step_until p q (Err StepError.Spent) none same spent =
      let is = same refl in
      (subst (λ (z : PassView (Event S)). Counts S p [] 0 z) (sym is) (counts_none p), ap (λ (z : PassView (Event S)). z.used) is ∙ spent.0 refl)
  step_until p q (Err StepError.NoMemory) none same spent = inr (counts_turn p q (none refl))

  -- an entry of the pass is the same whatever it counted before
  pub same_event :
      (p : PassView (Event S)) (xs : List (Event S)) (a : ℕ) (q : PassView (Event S)) → Counts S p xs a q
      → (cell : Option ℕ) (m : Asked S) (x : Reply S) → event_of q cell m x ≡ event_of p cell m x
  same_event p xs a q counts cell m x = ap (λ (z : PassView (Event S)). event_of z cell m x) counts.pass
