-- What a gate counts, call after call.
use Rattle.std.proofs.Common.{◌≡◌, ℕ, ◌≤◌, Result, Ok, Err, refl, subst, arith}
use Rattle.std.specs.Prelude.{IsErrAnd}
use Rattle.ddb_outside.specs.Causes.{Rose}
use Rattle.coordinator.specs.Stops.{Stops}

-- a gate that was not asked, where there is no stop
pub not_asked : (P : Type 0) (k : ℕ) → (P → ⊥) → Stops P k k
not_asked P k never = record { stopped = λ stop. absurd (never stop); later = omega arith; obeyed = λ _. refl }

-- a gate that stops here
pub stops_here : (P : Type 0) (before now : ℕ) → P → Rose before now → before ≤ now → Stops P before now
stops_here P before now is rose later = record { stopped = λ _. rose; later = later; obeyed = λ on. absurd (on is) }

-- it has let pass before
pub let_pass : (P : Type 0) (before middle now : ℕ) → middle ≡ before → Stops P middle now → Stops P before now
let_pass P before middle now same h = subst (λ k. Stops P k now) same h

-- the same stop in other words
pub in_words : (P Q : Type 0) (before now : ℕ) → (P → Q) → (Q → P) → Stops P before now → Stops Q before now
in_words P Q before now to from h = record { stopped = λ q. h.stopped (from q); later = h.later; obeyed = λ on. h.obeyed (λ p. on (to p)) }

-- an error is no answer
pub not_ok : {X E : Type 0} (r : Result X E) (P : E → Type 0) → IsErrAnd r P → (x : X) → r ≡ Ok x → ⊥
not_ok (Ok y) P h x is = absurd h
not_ok (Err e) P h x is = cc
