-- Places one after another, and numbers of clients.
use Rattle.std.proofs.Common.{◌≡◌, ◌≤◌, ℕ, suc, ◌+◌, List, [], ◌∷◌, ◌++◌, length, ap, subst, arith, length-append}
use Rattle.turnstile.specs.Passes.{PassView}
use Rattle.table_history.specs.Entries.{TableEvent}
use Rattle.table_load.specs.Rounds.{InOrder}

-- what was done for the places below one, and then for it, was done for one place more
pub one_more : (Does : ℕ → PassView TableEvent → PassView TableEvent → Type 0) (place : ℕ) (p mid q : PassView TableEvent)
    → InOrder Does place p mid → Does place mid q → InOrder Does (place + 1) p q
one_more Does place p mid q before does =
    let e : suc place ≡ place + 1 = omega arith in
    let whole : InOrder Does (suc place) p q = (mid, before, does) in
    subst (λ k. InOrder Does k p q) e whole

-- a list of which the last was taken is shorter
pub shorter : {A : Type 0} (old new : List A) (taken : A) → old ≡ new ++ taken ∷ [] → suc (length new) ≤ length old
shorter old new taken is =
    let whole = ap length is in
    let long = length-append new (taken ∷ []) in
    omega (arith, whole, long)
