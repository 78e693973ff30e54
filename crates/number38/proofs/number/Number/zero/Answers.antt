use Rattle.std.proofs.Common.{ℕ, false, pos, refl, sym, subst, arith}
use Rattle.number38.specs.declared.number.Number.TheInside.{Inside}
use Rattle.number38.specs.Number.{IsCanonical}
use Rattle.number38.proofs.RangeLaws.{zero_below_limit}
use Rattle.number38.proofs.number.Number.zero.Goals as goal

nought : ℕ → Inside
nought n = record { negative = false; coefficient = n; exponent = pos 0 }

pub invariant_of-result : goal.invariant_of-result
unfolding nought
invariant_of-result c =
    let made : IsCanonical (nought 0) = record {
      digits = omega arith;
      stripped = λ h. absurd (omega arith);
      zero_exponent = λ _. refl;
      zero_sign = λ _. refl;
      low = record { le = tt };
      high = record { le = tt };
      least = λ h. absurd (omega arith);
      below_limit = zero_below_limit;
    } in
    subst (λ (n : ℕ). IsCanonical (nought n)) (sym c.of.ensures) made
