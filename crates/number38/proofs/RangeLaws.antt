-- Magnitudes and their range.
use Rattle.std.proofs.Common.{◌≡◌, ℕ, suc, ◌+◌, ◌*◌, ◌%◌, ◌^◌, ◌<◌, ◌≤◌, Bool, false, IsTrue, ℤ, pos, negsuc, ◌+ℤ◌, ◌-ℤ◌, unsigned_abs, Ok, Err, Option, Some, None, SomeIff, ok_or, subst, sym, ap, ◌∙◌, arith, ⊎_elim}
use Rattle.std.proofs.Math.Nat.{pow-suc, mul-le-mul_right, mul-lt-mul_of_pos_right, mul_comm}
use Rattle.std.proofs.lemmas.Bool.Decides.{nat_tests}
use lib.Pow.{pow-add}
use Rattle.number38.specs.DigitLaws.{ten_pow_pos, ten_pow_le}
use Rattle.std.proofs.lemmas.Int.{ints}
use Rattle.std.specs.Int.{w16}
use mir.Val.{to_z, of_z}
use Rattle.number38.specs.Digits.{significant_digits}
use Rattle.number38.specs.DigitLaws.{significant_digits-zero, few_digits, many_digits, mul_ten_pow_pos, pos_from_last}
use Rattle.number38.specs.NumberLaws.{unsigned_abs-signed}
use Rattle.std.proofs.lemmas.Bool.{false_from_ne_true, cases_lt}
use Rattle.number38.specs.Number.{least, limit, is_in_range, power_of, fitted, signed}
use Rattle.number38.specs.declared.number.NumberFault.TheVariants.{TooManyDigits, OutOfRange}

-- c has at most l + 1 digits
pub below_pow : (l p k c : ℕ) → c < 10 * 10 ^ l → l + 1 + p ≤ k → c * 10 ^ p < 10 ^ k
below_pow l p k c h le =
    let wide : 10 ^ (suc l + p) ≡ 10 ^ suc l * 10 ^ p = pow-add 10 (suc l) p in
    let one : 10 ^ suc l ≡ 10 * 10 ^ l = pow-suc 10 l ∙ mul_comm (10 ^ l) 10 in
    let two : 10 ^ suc l * 10 ^ p ≡ 10 * 10 ^ l * 10 ^ p = ap (λ x. x * 10 ^ p) one in
    let three : c * 10 ^ p < 10 * 10 ^ l * 10 ^ p = mul-lt-mul_of_pos_right h (ten_pow_pos p) in
    let four : 10 ^ (suc l + p) ≤ 10 ^ k = ten_pow_le (suc l + p) k (omega arith) in
    omega arith

-- c has at least l + 1 digits
pub above_pow : (l p k c : ℕ) → 10 ^ l ≤ c → k ≤ l + p → 10 ^ k ≤ c * 10 ^ p
above_pow l p k c h le =
    let wide : 10 ^ (l + p) ≡ 10 ^ l * 10 ^ p = pow-add 10 l p in
    let one : 10 ^ l * 10 ^ p ≤ c * 10 ^ p = mul-le-mul_right (10 ^ p) h in
    let two : 10 ^ k ≤ 10 ^ (l + p) = ten_pow_le k (l + p) le in
    omega arith

pub below_least : (l p c : ℕ) → c < 10 * 10 ^ l → l + 1 + p < 38 → c * 10 ^ p < least
unfolding least
below_least l p c h le = below_pow l p 37 c h (omega arith)

pub least_le : (l p c : ℕ) → 10 ^ l ≤ c → 38 ≤ l + 1 + p → least ≤ c * 10 ^ p
unfolding least
least_le l p c h le = above_pow l p 37 c h (omega arith)

pub below_limit : (l p c : ℕ) → c < 10 * 10 ^ l → l + 1 + p ≤ 293 → c * 10 ^ p < limit
unfolding limit
below_limit l p c h le = below_pow l p 293 c h le

pub limit_le : (l p c : ℕ) → 10 ^ l ≤ c → 293 < l + 1 + p → limit ≤ c * 10 ^ p
unfolding limit
limit_le l p c h le = above_pow l p 293 c h (omega arith)

pub zero_below_limit : 0 < limit
unfolding limit
zero_below_limit = ten_pow_pos 293

pub is_in_range_from : (n : ℕ) → least ≤ n → n < limit → IsTrue (is_in_range n)
is_in_range_from n low high = grind (arith, nat_tests)

pub not_in_range_below : (n : ℕ) → n < least → is_in_range n ≡ false
not_in_range_below n low = grind (arith, nat_tests)

pub not_in_range_above : (n : ℕ) → limit ≤ n → is_in_range n ≡ false
not_in_range_above n high = grind (arith, nat_tests)

-- the power of ten of a number's fields
pub power_of-is : (e : ℤ) (p : ℕ) → e +ℤ pos 167 ≡ pos p → power_of e ≡ p
power_of-is (pos n) p h = omega (arith, ints)
power_of-is (negsuc n) p h = omega (arith, ints)

-- `power as i16 - 167`
pub exponent_back : (p : ℕ) → p < 2000 → to_z w16 (of_z w16 (to_z w16 p -ℤ pos 167)) ≡ pos p -ℤ pos 167
exponent_back p h = omega (arith, ints)

pub power_of-back : (p : ℕ) → p < 2000 → power_of (to_z w16 (of_z w16 (to_z w16 p -ℤ pos 167))) ≡ p
power_of-back p h =
    let e : to_z w16 (of_z w16 (to_z w16 p -ℤ pos 167)) ≡ pos p -ℤ pos 167 = exponent_back p h in
    power_of-is _ p (omega (arith, ints))

-- the answers for a whole number, case by case
pub fitted-zero : (z : ℤ) → unsigned_abs z ≡ 0 → fitted z ≡ Ok z
unfolding fitted
fitted-zero z e =
    let none : significant_digits (unsigned_abs z) ≡ 0 = ap significant_digits e ∙ significant_digits-zero in
    grind (arith, nat_tests)

pub fitted-many : (z : ℤ) → 38 < significant_digits (unsigned_abs z) → fitted z ≡ Err TooManyDigits
unfolding fitted
fitted-many z h = grind (arith, nat_tests)

pub fitted-in : (z : ℤ) → significant_digits (unsigned_abs z) ≤ 38 → IsTrue (is_in_range (unsigned_abs z)) → fitted z ≡ Ok z
unfolding fitted
fitted-in z few h = grind (arith, nat_tests)

pub fitted-out : (z : ℤ) → significant_digits (unsigned_abs z) ≤ 38 → 0 < unsigned_abs z → is_in_range (unsigned_abs z) ≡ false → fitted z ≡ Err OutOfRange
unfolding fitted
fitted-out z few p h = grind (arith, nat_tests)

-- a coefficient that ends in no zero, of too many digits
pub fitted-coefficient_many : (b : Bool) (c p : ℕ) → 0 < c % 10 → 10 ^ 38 ≤ c → fitted (signed b (c * 10 ^ p)) ≡ Err TooManyDigits
fitted-coefficient_many b c p h large =
    fitted-many _ (subst (λ (n : ℕ). 38 < significant_digits n) (sym (unsigned_abs-signed b (c * 10 ^ p))) (many_digits c p h large))

-- the same of at most 38 digits: in range or not
pub fitted-coefficient_few : (b : Bool) (c p : ℕ) (o : Option ℤ) → 0 < c % 10 → c < 10 ^ 38 → SomeIff o (IsTrue (is_in_range (c * 10 ^ p))) (signed b (c * 10 ^ p)) → ok_or o OutOfRange ≡ fitted (signed b (c * 10 ^ p))
fitted-coefficient_few b c p (Some z) h small (inside, same) =
    ap Ok same ∙ sym (fitted-in (signed b (c * 10 ^ p)) (subst (λ (n : ℕ). significant_digits n ≤ 38) (sym (unsigned_abs-signed b (c * 10 ^ p))) (few_digits c p h small))
    (subst (λ (n : ℕ). IsTrue (is_in_range n)) (sym (unsigned_abs-signed b (c * 10 ^ p))) inside))
fitted-coefficient_few b c p None h small outside =
    sym (fitted-out (signed b (c * 10 ^ p)) (subst (λ (n : ℕ). significant_digits n ≤ 38) (sym (unsigned_abs-signed b (c * 10 ^ p))) (few_digits c p h small))
    (subst (λ (n : ℕ). 0 < n) (sym (unsigned_abs-signed b (c * 10 ^ p))) (omega (arith, mul_ten_pow_pos c p (pos_from_last c h))))
    (subst (λ (n : ℕ). is_in_range n ≡ false) (sym (unsigned_abs-signed b (c * 10 ^ p))) (false_from_ne_true (is_in_range (c * 10 ^ p)) (λ e. outside (grind arith)))))

pub whole_below_limit : (n : ℕ) → n < 2 ^ 64 → n * 10 ^ 167 < limit
whole_below_limit n h = below_limit 19 167 n (omega arith) (omega arith)

-- a number of at most k digits
pub log_below : (f l k : ℕ) → 10 ^ l ≤ f → f < 10 ^ k → l + 1 ≤ k
log_below f l k low high = ⊎_elim (λ (q : l < k). omega arith) (λ (q : k ≤ l). absurd (omega (arith, ten_pow_le k l q))) (cases_lt l k)
