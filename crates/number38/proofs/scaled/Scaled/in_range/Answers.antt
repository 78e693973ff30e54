use Rattle.std.proofs.Common.{◌≡◌, Bool, ◌∙◌, ◌*◌, ◌^◌, ◌<◌, ◌≤◌, false, IsTrue, ℕ, pos, ◌-ℤ◌, sym, ap, subst, arith}
use Rattle.std.specs.Int.{w16}
use mir.Val.{to_z, of_z}
use Rattle.std.proofs.lemmas.Int.{ints}
use Rattle.std.proofs.lemmas.Bool.Decides.{nat_tests}
use Rattle.number38.specs.declared.number.Number.TheInside.{Inside}
use Rattle.number38.specs.Number.{is_in_range, signed, power_of, least, limit, IsCanonical}
use Rattle.number38.specs.DigitLaws.{pos_from_last}
use Rattle.number38.proofs.RangeLaws.{below_least, least_le, below_limit, limit_le, is_in_range_from, not_in_range_below, not_in_range_above, power_of-back, exponent_back}
use Rattle.number38.proofs.scaled.Scaled.in_range.Goals as goal
use Rattle.number38.proofs.scaled.Scaled.in_range.Goals.{then-digits-lt38-via-then-digits-lt38, then-digits-lt38-via-else-digits-lt38+then-digits-gt293}

-- the fields of a coefficient and a power
placed : Bool → ℕ → ℕ → Inside
placed b n power = record { negative = b; coefficient = n; exponent = to_z w16 (of_z w16 (to_z w16 power -ℤ pos 167)) }

not_both : (n : ℕ) → is_in_range n ≡ false → IsTrue (is_in_range n) → ⊥
not_both n e h = grind (arith, nat_tests)

pub returns-then-digits-lt38 : goal.returns-then-digits-lt38
returns-then-digits-lt38 c =
    let s = c.args.self in
    let l = c.ilog10.result in
    elim c.then-digits-lt38.branch [
      | then-digits-lt38-via-then-digits-lt38 w ↦ not_both _ (not_in_range_below _ (below_least l s.power s.coefficient c.ilog10.ensures.next_power_gt w.if-digits-lt38.true))
      | then-digits-lt38-via-else-digits-lt38+then-digits-gt293 w ↦ not_both _ (not_in_range_above _ (limit_le l s.power s.coefficient c.ilog10.ensures.power_le w.if-digits-gt293.true))
    ]

pub invariant_of-result : goal.invariant_of-result
unfolding placed
invariant_of-result c =
    let s = c.args.self in
    let l = c.ilog10.result in
    let some : 0 < s.coefficient = pos_from_last s.coefficient c.requires.stripped in
    let p : power_of (to_z w16 (of_z w16 (to_z w16 s.power -ℤ pos 167))) ≡ s.power = power_of-back s.power c.requires.room in
    let e : to_z w16 (of_z w16 (to_z w16 s.power -ℤ pos 167)) ≡ pos s.power -ℤ pos 167 = exponent_back s.power c.requires.room in
    let made : IsCanonical (placed s.negative s.coefficient s.power) = record {
      digits = c.requires.digits;
      stripped = λ _. c.requires.stripped;
      zero_exponent = λ z. absurd (omega arith);
      zero_sign = λ z. absurd (omega arith);
      low = omega (arith, ints);
      high = omega (arith, ints);
      least = λ _. subst (λ (k : ℕ). least ≤ s.coefficient * 10 ^ k) (sym p) (least_le l s.power s.coefficient c.ilog10.ensures.power_le c.if-digits-lt38.false);
      below_limit = subst (λ (k : ℕ). s.coefficient * 10 ^ k < limit) (sym p) (below_limit l s.power s.coefficient c.ilog10.ensures.next_power_gt c.if-digits-gt293.false);
    } in
    subst (λ (k : ℕ). IsCanonical (placed s.negative k s.power)) (sym c.of.ensures) made

pub returns : goal.returns
returns c =
    let s = c.args.self in
    let l = c.ilog10.result in
    (is_in_range_from _ (least_le l s.power s.coefficient c.ilog10.ensures.power_le c.if-digits-lt38.false) (below_limit l s.power s.coefficient c.ilog10.ensures.next_power_gt c.if-digits-gt293.false), ap (λ (n : ℕ). signed s.negative (n * 10 ^ power_of (to_z w16 (of_z w16 (to_z w16 s.power -ℤ pos 167))))) c.of.ensures ∙ ap (λ (k : ℕ). signed s.negative (s.coefficient * 10 ^ k)) (power_of-back s.power c.requires.room))
