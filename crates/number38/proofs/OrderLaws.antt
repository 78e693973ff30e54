-- The order of whole numbers, by their coefficients.
use Rattle.std.proofs.Common.{◌≡◌, ℕ, zero, suc, ◌-◌, ◌*◌, ◌^◌, ◌<◌, ◌≤◌, true, false, sym, refl, ap, ◌∙◌, arith, ⊎_elim}
use Rattle.std.specs.Ordering.{nat_cmp, int_cmp}
use Rattle.std.specs.declared.cmp.Ordering.TheVariants.{Less, Equal, Greater}
use Rattle.std.proofs.Math.Nat.{mul-lt-mul_of_pos_right}
use Rattle.std.proofs.lemmas.Bool.{cases_order}
use Rattle.std.proofs.lemmas.Bool.Decides.{nat_tests}
use Rattle.number38.specs.Number.{signed}
use Rattle.number38.specs.DigitLaws.{ten_pow_pos, ten_pow_join}

pub nat_cmp-lt : (a b : ℕ) → a < b → nat_cmp a b ≡ Less
nat_cmp-lt a b h = grind (arith, nat_tests)

pub nat_cmp-same : (a b : ℕ) → a ≡ b → nat_cmp a b ≡ Equal
nat_cmp-same a b h = grind (arith, nat_tests)

pub nat_cmp-gt : (a b : ℕ) → b < a → nat_cmp a b ≡ Greater
nat_cmp-gt a b h = grind (arith, nat_tests)

pub nat_cmp-mul : (a b k : ℕ) → 0 < k → nat_cmp (a * k) (b * k) ≡ nat_cmp a b
nat_cmp-mul a b k p =
    ⊎_elim (λ (e : a ≡ b). nat_cmp-same (a * k) (b * k) (ap (λ (x : ℕ). x * k) e) ∙ sym (nat_cmp-same a b e))
    (⊎_elim (λ (l : a < b). nat_cmp-lt (a * k) (b * k) (mul-lt-mul_of_pos_right l p) ∙ sym (nat_cmp-lt a b l))
    (λ (g : b < a). nat_cmp-gt (a * k) (b * k) (mul-lt-mul_of_pos_right g p) ∙ sym (nat_cmp-gt a b g))) (cases_order a b)

-- the coefficient of the greater power, widened
pub widened_same : (c p q : ℕ) → p ≤ q → c * 10 ^ q ≡ c * 10 ^ (q - p) * 10 ^ p
widened_same c p q h = ap (λ (x : ℕ). c * 10 ^ x) (omega arith) ∙ sym (ten_pow_join c (q - p) p)

pub nat_cmp-widen_right : (a b p q : ℕ) → p ≤ q → nat_cmp (a * 10 ^ p) (b * 10 ^ q) ≡ nat_cmp a (b * 10 ^ (q - p))
nat_cmp-widen_right a b p q h =
    ap (nat_cmp (a * 10 ^ p)) (widened_same b p q h) ∙ nat_cmp-mul a (b * 10 ^ (q - p)) (10 ^ p) (ten_pow_pos p)

pub nat_cmp-widen_left : (a b p q : ℕ) → q ≤ p → nat_cmp (a * 10 ^ p) (b * 10 ^ q) ≡ nat_cmp (a * 10 ^ (p - q)) b
nat_cmp-widen_left a b p q h =
    ap (λ (x : ℕ). nat_cmp x (b * 10 ^ q)) (widened_same a q p h) ∙ nat_cmp-mul (a * 10 ^ (p - q)) b (10 ^ q) (ten_pow_pos q)

-- a number below 0 is less than one that is not
pub int_cmp-across : (m n : ℕ) → 0 < m → int_cmp (signed true m) (signed false n) ≡ Less
int_cmp-across zero n h = absurd (omega arith)
int_cmp-across (suc m) n h = refl

pub int_cmp-across_back : (m n : ℕ) → 0 < n → int_cmp (signed false m) (signed true n) ≡ Greater
int_cmp-across_back m zero h = absurd (omega arith)
int_cmp-across_back m (suc n) h = refl
