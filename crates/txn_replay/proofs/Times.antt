-- Moments, in order of time.
use Rattle.std.proofs.Common.{◌≡◌, ℕ, zero, suc, ◌+◌, ◌<◌, ◌≤◌, List, [], ◌∷◌, length, take, get_or, reverse, sym, subst, arith}
use Rattle.txn_core.specs.declared.entry.Entry.{Entry}
use Rattle.txn_core.specs.History.{IsTimely}
use Rattle.txn_core.proofs.Reversed.{newest, whole}
use Rattle.txn_core.proofs.Choices.{any_found}
use Rattle.std.specs.Prelude.{Any}

module _ {K V A F D Q B : Type 0} (es : List (Entry K V A F D Q B)) (pass moment : ℕ) (i : ℕ) where
  pub timely_more : (e : Entry K V A F D Q B) → i < length es → e ≡ get_or es i e → (e.pass ≡ pass → e.moment ≤ moment) → IsTimely (reverse (take i es)) pass moment → IsTimely (reverse (take (i + 1) es)) pass moment
  timely_more e lt is now before = subst (λ xs. IsTimely xs pass moment) (sym (newest es i e lt is)) (now, before)

  pub timely_all : length es ≤ i → i ≤ length es → IsTimely (reverse (take i es)) pass moment → IsTimely (reverse es) pass moment
  timely_all ge le before = subst (λ xs. IsTimely (reverse xs) pass moment) (whole es i ge le) before

  each_timely : (xs : List (Entry K V A F D Q B)) → IsTimely xs pass moment → Any (λ e. (e.pass ≡ pass) × (moment < e.moment)) xs → ⊥
  each_timely [] timely (k, y, lt, is, late) = absurd (omega arith)
  each_timely (x ∷ xs) timely (zero, y, lt, is, late) =
      let at : x ≡ y = is in
      let le : y.moment ≤ moment = subst (λ z. z.pass ≡ pass → z.moment ≤ moment) at timely.0 late.0 in
      let more = late.1 in
      omega arith
  each_timely (x ∷ xs) timely (suc k, y, lt, is, late) = each_timely xs timely.1 (k, y, omega arith, is, late)

  pub timely_not : (e : Entry K V A F D Q B) → i < length es → e ≡ get_or es i e → e.pass ≡ pass → moment < e.moment → IsTimely (reverse es) pass moment → ⊥
  timely_not e lt is own late timely = each_timely (reverse es) timely (any_found (λ x. (x.pass ≡ pass) × (moment < x.moment)) es i e lt is (own, late))
