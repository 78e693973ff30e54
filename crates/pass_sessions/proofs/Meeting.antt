-- Passes that meet.
use Rattle.std.proofs.Common.{◌≡◌, ℕ, zero, suc, List, [], ◌∷◌, arith, refl, sym, ap, ◌∙◌, subst}
use Rattle.std.specs.Prelude.{All}
use Rattle.std.specs.List.{AllByRecursion}
use Rattle.turnstile.specs.Histories.{Trail}
use Rattle.turnstile.specs.Passes.{PassView}
use Rattle.turnstile.proofs.Histories.{trail_on}
use Rattle.pass_sessions.specs.Meetings.{SeesMore}

-- what holds of each element by its place
pub each_by_recursion : {A : Type 0} (P : A → Type 0) (xs : List A) → All P xs → AllByRecursion P xs
each_by_recursion P [] all = tt
each_by_recursion P (x ∷ xs) all =
    (all 0 x (omega arith), each_by_recursion P xs (λ k d below. all (suc k) d (omega arith)))

pub each_by_place : {A : Type 0} (P : A → Type 0) (xs : List A) → AllByRecursion P xs → All P xs
each_by_place P [] each k d below = absurd (omega arith)
each_by_place P (x ∷ xs) each zero d below = each.0
each_by_place P (x ∷ xs) each (suc k) d below = each_by_place P xs each.1 k d (omega arith)

module _ {E : Type 0} (by : E → ℕ) where
  pub sees_by : (p q : PassView E) (front : List E) → q ≡ record p { front = front } → Trail by p.number p.front [] q.front
      → SeesMore by p q
  sees_by p q front is trail =
      record { pass = subst (λ (z : PassView E). z ≡ record p { front = z.front }) (sym is) refl; trail = trail }

  -- one stretch after another
  pub sees_on : (p mid q : PassView E) → SeesMore by p mid → SeesMore by mid q → SeesMore by p q
  sees_on p mid q one two =
      let number : mid.number ≡ p.number = ap (λ (z : PassView E). z.number) one.pass in
      record {
        pass = two.pass ∙ ap (λ (z : PassView E). record z { front = q.front }) one.pass;
        trail = trail_on by p.number p.front [] mid.front [] q.front one.trail (subst (λ n. Trail by n mid.front [] q.front) number two.trail);
      }
