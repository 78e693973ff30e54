-- Sums of whole numbers, by their coefficients.
use Rattle.std.proofs.Common.{◌≡◌, ℕ, zero, suc, ◌+◌, ◌-◌, ◌*◌, ◌%◌, ◌^◌, ◌<◌, ◌≤◌, Bool, true, false, ℤ, ◌+ℤ◌, ◌-ℤ◌, not, refl, ap, ◌∙◌, arith}
use Rattle.std.proofs.lemmas.Int.{ints}
use Rattle.std.proofs.Math.Nat.{pow-zero, mul-one, mul-mod_left}
use Rattle.number38.specs.Number.{signed}
use Rattle.number38.specs.DigitLaws.{ten_pow-suc}
use Rattle.number38.proofs.OrderLaws.{widened_same}

-- The same zeros behind both coefficients stand behind the sum.
pub signed-add_mul : (b d r : Bool) (x y m q : ℕ) → signed r m ≡ signed b x +ℤ signed d y → signed r (m * q) ≡ signed b (x * q) +ℤ signed d (y * q)
signed-add_mul false false false x y m q h = let n : m ≡ x + y = omega (arith, ints) in let e : m * q ≡ (x + y) * q = ap (λ (t : ℕ). t * q) n in omega (arith, ints)
signed-add_mul false false true x y m q h = let n : m + x + y ≡ 0 = omega (arith, ints) in let e : (m + x + y) * q ≡ 0 * q = ap (λ (t : ℕ). t * q) n in omega (arith, ints)
signed-add_mul false true false x y m q h = let n : m + y ≡ x = omega (arith, ints) in let e : (m + y) * q ≡ x * q = ap (λ (t : ℕ). t * q) n in omega (arith, ints)
signed-add_mul false true true x y m q h = let n : m + x ≡ y = omega (arith, ints) in let e : (m + x) * q ≡ y * q = ap (λ (t : ℕ). t * q) n in omega (arith, ints)
signed-add_mul true false false x y m q h = let n : m + x ≡ y = omega (arith, ints) in let e : (m + x) * q ≡ y * q = ap (λ (t : ℕ). t * q) n in omega (arith, ints)
signed-add_mul true false true x y m q h = let n : m + y ≡ x = omega (arith, ints) in let e : (m + y) * q ≡ x * q = ap (λ (t : ℕ). t * q) n in omega (arith, ints)
signed-add_mul true true false x y m q h = let n : m + x + y ≡ 0 = omega (arith, ints) in let e : (m + x + y) * q ≡ 0 * q = ap (λ (t : ℕ). t * q) n in omega (arith, ints)
signed-add_mul true true true x y m q h = let n : m ≡ x + y = omega (arith, ints) in let e : m * q ≡ (x + y) * q = ap (λ (t : ℕ). t * q) n in omega (arith, ints)

-- what a coefficient far above another leaves of it: too many digits, the last of which is no zero
pub record FarSum (z : ℤ) : Type 0 where
  pub negative : Bool
  pub coefficient : ℕ
  pub is : signed negative coefficient ≡ z
  pub large : 10 ^ 38 ≤ coefficient
  pub stripped : 0 < coefficient % 10

pub far_sum : (b d : Bool) (x y : ℕ) → x % 10 ≡ 0 → 0 < y % 10 → y < 10 ^ 38 → 2 * 10 ^ 38 ≤ x → FarSum (signed b x +ℤ signed d y)
far_sum false false x y e h small far = record { negative = false; coefficient = x + y; is = refl; large = omega arith; stripped = omega arith }
far_sum false true x y e h small far = record { negative = false; coefficient = x - y; is = omega (arith, ints); large = omega arith; stripped = omega arith }
far_sum true false x y e h small far = record { negative = true; coefficient = x - y; is = omega (arith, ints); large = omega arith; stripped = omega arith }
far_sum true true x y e h small far = record { negative = true; coefficient = x + y; is = omega (arith, ints); large = omega arith; stripped = omega arith }

-- what is widened past every coefficient ends in a zero
pub widened_far : (c d : ℕ) → c < 10 ^ 38 → 2 * 10 ^ 38 ≤ c * 10 ^ d → c * 10 ^ d % 10 ≡ 0
widened_far c zero small far = let e : c * 10 ^ 0 ≡ c = ap (λ (x : ℕ). c * x) (pow-zero 10) ∙ mul-one c in absurd (omega arith)
widened_far c (suc d) small far = ap (λ (x : ℕ). x % 10) (ten_pow-suc c d) ∙ mul-mod_left (c * 10 ^ d) 10

-- the two whole numbers at the smaller power of ten
pub aligned : (b d : Bool) (x y p q : ℕ) → p ≤ q → signed b (x * 10 ^ q) +ℤ signed d (y * 10 ^ p) ≡ signed b (x * 10 ^ (q - p) * 10 ^ p) +ℤ signed d (y * 10 ^ p)
aligned b d x y p q h = ap (λ (n : ℕ). signed b n +ℤ signed d (y * 10 ^ p)) (widened_same x p q h)

-- to take away is to add with the other sign
pub turned-add : (y : ℤ) (b : Bool) (n : ℕ) → y +ℤ signed (not b) n ≡ y -ℤ signed b n
turned-add y false n = omega (arith, ints)
turned-add y true n = omega (arith, ints)
