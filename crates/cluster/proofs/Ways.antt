-- Who stands in a command's way, cell by cell.
use Rattle.std.proofs.Common.{◌≡◌, ℕ, ◌+◌, ◌<◌, ◌≤◌, Option, None, Some, MatchOption, is_some, true, false, sym, subst, arith}
use Rattle.txn_core.specs.Service.{Service, IsServiceLawful}
use Rattle.txn_core.specs.State.{State}
use Rattle.txn_core.specs.Cells.{IsClearThere, IsFirstHolder}
use Rattle.cluster.specs.Commanding.{TellsFirst}

module _ {K V A F C D Q B : Type 0} (S : Service K V A F C D Q B) (at : ℕ → State K V A C) (d : D) where
  -- one more cell that is clear
  pub clear_more :
      (i : ℕ) (holder : Option ℕ) → is_some holder ≡ false
      → MatchOption holder (IsClearThere S (at i) d i) (λ n. IsFirstHolder S (at i) d i n)
      → ((j : ℕ) → j < i → IsClearThere S (at j) d j) → (j : ℕ) → j < i + 1 → IsClearThere S (at j) d j
  clear_more i (Some n) none here before j below = absurd (cc)
  clear_more i None none here before j below = by (native.Mathlib.Decide.ℕ_discrete j i)
    where
      by : Dec (j ≡ i) → IsClearThere S (at j) d j
      by (yes same) = subst (λ k. IsClearThere S (at k) d k) (sym same) here
      by (no apart) = before j (omega arith)

  -- the first that is not
  pub first_found :
      (i : ℕ) (holder : Option ℕ) → is_some holder ≡ true
      → MatchOption holder (IsClearThere S (at i) d i) (λ n. IsFirstHolder S (at i) d i n)
      → ((j : ℕ) → j < i → IsClearThere S (at j) d j) → TellsFirst S at d holder
  first_found i (Some n) some here before = (i, here, before)
  first_found i None some here before = absurd (cc)

  -- where all partitions are clear, all cells are
  pub all_clear :
      IsServiceLawful S → 1 ≤ S.control → (i : ℕ) → S.control ≤ i → ((j : ℕ) → j < i → IsClearThere S (at j) d j) → TellsFirst S at d None
  all_clear law some i all before = λ j q lives concerned.
      let lt = law.cell_below some q in
      let below : j < i = omega arith in
      before j below q lives concerned
