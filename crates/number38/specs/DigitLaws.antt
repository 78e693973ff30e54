-- Powers of ten, and the digits of a coefficient with zeros behind it.
use Rattle.std.proofs.Common.{◌≡◌, ℕ, zero, suc, ◌+◌, ◌*◌, ◌/◌, ◌%◌, ◌^◌, ◌<◌, ◌≤◌, eqb, length, sym, refl, ap, ◌∙◌, subst, arith, ⊎_elim, add_comm, add-one}
use Rattle.std.proofs.Math.Nat.{pow-suc, pow-zero, one-le-pow, pow-le-pow_right, mul_assoc, mul-one, mul-div_cancel, mul-mod_left, mul-le-mul_right}
use lib.Pow.{pow-add}
use Rattle.std.proofs.lemmas.Bool.{cond-true, cond-false, eq-eqb, ne_eqb, cases_lt}
use Rattle.std.proofs.lemmas.Int.Digits.{length-digits_of-le, number_digits_of, number_lt, all_below_base_digits_of}
use Rattle.std.specs.Int.Digits.{digits_of}
use Rattle.number38.specs.Digits.{zeros_within, trailing_zeros, significand, significant_digits}

pub ten_pow_pos : (k : ℕ) → 0 < 10 ^ k
ten_pow_pos k = one-le-pow k 10 (omega arith)

pub ten_pow-suc : (c k : ℕ) → c * 10 ^ suc k ≡ c * 10 ^ k * 10
ten_pow-suc c k = ap (λ x. c * x) (pow-suc 10 k) ∙ sym (mul_assoc c (10 ^ k) 10)

-- a larger power of ten is at least as large
pub ten_pow_le : (i j : ℕ) → i ≤ j → 10 ^ i ≤ 10 ^ j
ten_pow_le i j h = pow-le-pow_right (omega arith) h

pub ten_pow_self : (k : ℕ) → k < 10 ^ k
ten_pow_self zero = ten_pow_pos 0
ten_pow_self (suc k) = omega (arith, pow-suc 10 k, ten_pow_self k)

-- zeros behind a number, by two steps
pub ten_pow_join : (c i j : ℕ) → c * 10 ^ i * 10 ^ j ≡ c * 10 ^ (i + j)
ten_pow_join c i j = mul_assoc c (10 ^ i) (10 ^ j) ∙ ap (λ x. c * x) (sym (pow-add 10 i j))

-- a digit behind a digit: a number that ends in no zero is not 0
pub pos_from_last : (c : ℕ) → 0 < c % 10 → 0 < c
pos_from_last zero h = h
pos_from_last (suc c) h = omega arith

zeros_within-ends : (most n : ℕ) → 0 < n % 10 → zeros_within most n ≡ 0
zeros_within-ends zero n h = refl
zeros_within-ends (suc most) n h = cond-false (eqb (n % 10) 0) _ _ (ne_eqb (n % 10) 0 (λ e. omega arith))

zeros_within-goes : (most n : ℕ) → zeros_within (suc most) (n * 10) ≡ suc (zeros_within most n)
zeros_within-goes most n =
    cond-true (eqb (n * 10 % 10) 0) _ _ (eq-eqb (n * 10 % 10) 0 (mul-mod_left n 10)) ∙ ap (λ m. suc (zeros_within most m)) (mul-div_cancel n (omega arith))

pub zeros_within-mul : (most k c : ℕ) → k ≤ most → 0 < c % 10 → zeros_within most (c * 10 ^ k) ≡ k
zeros_within-mul zero k c le h = omega arith
zeros_within-mul (suc most) zero c le h =
    ap (zeros_within (suc most)) (ap (λ x. c * x) (pow-zero 10) ∙ mul-one c) ∙ zeros_within-ends (suc most) c h
zeros_within-mul (suc most) (suc k) c le h =
    ap (zeros_within (suc most)) (ten_pow-suc c k) ∙ zeros_within-goes most (c * 10 ^ k) ∙ ap suc (zeros_within-mul most k c (omega arith) h)

-- a coefficient with zeros behind it is at least as large as their number
pub mul_ten_pow_pos : (c k : ℕ) → 0 < c → k < c * 10 ^ k
mul_ten_pow_pos c k h = omega (arith, mul-le-mul_right (10 ^ k) h, ten_pow_self k)

pub trailing_zeros-mul : (c k : ℕ) → 0 < c % 10 → trailing_zeros (c * 10 ^ k) ≡ k
unfolding trailing_zeros
trailing_zeros-mul c k h =
    let big : k < c * 10 ^ k = mul_ten_pow_pos c k (pos_from_last c h) in
    cond-false (eqb (c * 10 ^ k) 0) _ _ (ne_eqb (c * 10 ^ k) 0 (λ e. omega arith)) ∙ zeros_within-mul (c * 10 ^ k) k c (omega arith) h

pub significand-mul : (c k : ℕ) → 0 < c % 10 → significand (c * 10 ^ k) ≡ c
unfolding significand
significand-mul c k h =
    ap (λ z. c * 10 ^ k / 10 ^ z) (trailing_zeros-mul c k h) ∙ mul-div_cancel c (ten_pow_pos k)

pub significant_digits-mul : (c k : ℕ) → 0 < c % 10 → significant_digits (c * 10 ^ k) ≡ length (digits_of 10 c)
unfolding significant_digits
significant_digits-mul c k h = ap (λ n. length (digits_of 10 n)) (significand-mul c k h)

pub significand-zero : significand 0 ≡ 0
unfolding significand trailing_zeros
significand-zero = refl

pub significant_digits-zero : significant_digits 0 ≡ 0
unfolding significant_digits significand trailing_zeros
significant_digits-zero = refl

-- a number of more than l digits
pub length_digits_above : (l c : ℕ) → 10 ^ l ≤ c → l < length (digits_of 10 c)
length_digits_above l c h =
    let below : c < 10 ^ length (digits_of 10 c) =
    subst (λ (x : ℕ). x < 10 ^ length (digits_of 10 c)) (number_digits_of 10 c (omega arith)) (number_lt 10 (digits_of 10 c) (all_below_base_digits_of 10 c (omega arith))) in
    ⊎_elim (λ p. p) (λ q. absurd (omega (arith, ten_pow_le (length (digits_of 10 c)) l q))) (cases_lt l (length (digits_of 10 c)))

pub length_digits_is : (l c : ℕ) → 10 ^ l ≤ c → c < 10 ^ suc l → length (digits_of 10 c) ≡ suc l
length_digits_is l c low high =
    omega (arith, length_digits_above l c low, length-digits_of-le 10 (suc l) c (omega arith) high)

-- at most 38 digits, and more
pub few_digits : (c k : ℕ) → 0 < c % 10 → c < 10 ^ 38 → significant_digits (c * 10 ^ k) ≤ 38
few_digits c k h small = omega (arith, significant_digits-mul c k h, length-digits_of-le 10 38 c (omega arith) small)

pub many_digits : (c k : ℕ) → 0 < c % 10 → 10 ^ 38 ≤ c → 38 < significant_digits (c * 10 ^ k)
many_digits c k h large = omega (arith, significant_digits-mul c k h, length_digits_above 38 c large)

-- a zero at the end, counted
pub strip_step : (n k : ℕ) → n % 10 ≡ 0 → n / 10 * 10 ^ (k + 1) ≡ n * 10 ^ k
strip_step n k h =
    let whole : n / 10 * 10 ≡ n = omega arith in
    sym (ap (λ (x : ℕ). n / 10 * 10 ^ x) (add_comm 1 k)) ∙ sym (ten_pow_join (n / 10) 1 k) ∙ ap (λ (x : ℕ). x * 10 ^ k) whole

-- 128 bits hold at most 38 zeros behind a digit
pub ten_pow_few : (c k : ℕ) → 0 < c → c * 10 ^ k < 2 ^ 128 → k < 39
ten_pow_few c k p h =
    ⊎_elim (λ few. few) (λ many. absurd (omega (arith, ten_pow_le 39 k many, mul-le-mul_right (10 ^ k) p))) (cases_lt k 39)

pub ten_pow-more : (c k : ℕ) → c * 10 ^ (k + 1) ≡ c * 10 ^ k * 10
ten_pow-more c k = ap (λ (x : ℕ). c * 10 ^ x) (add-one k) ∙ ten_pow-suc c k

-- a whole number of more than 38 digits that ends in no zero
pub many_here : (n : ℕ) → 0 < n % 10 → 10 ^ 38 ≤ n → 38 < significant_digits n
many_here n h large = subst (λ (x : ℕ). 38 < significant_digits x) (ap (λ (x : ℕ). n * x) (pow-zero 10) ∙ mul-one n) (many_digits n 0 h large)
