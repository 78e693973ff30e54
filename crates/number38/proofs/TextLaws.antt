-- The answer for digits whose point moves.
use Rattle.std.proofs.Common.{◌≡◌, ◌≢◌, ℕ, zero, suc, ◌+◌, ◌-◌, ◌*◌, ◌/◌, ◌%◌, ◌^◌, ◌<◌, ◌≤◌, min, Bool, true, false, cond, eqb, ltb, IsTrue, ℤ, pos, unsigned_abs, Option, Some, None, SomeIff, ok_or, Result, Ok, Err, sym, refl, ap, ◌∙◌, arith, ⊎_elim}
use Rattle.std.proofs.lemmas.Bool.{cases_eq, cases_lt, cond-true, cond-false, ne_eqb, le-ltb, false_from_ne_true}
use Rattle.std.proofs.lemmas.Bool.Decides.{nat_tests}
use Rattle.std.proofs.Math.Nat.{mul-div_cancel, mul-one, pow-zero}
use Rattle.std.proofs.lemmas.Nat.{div_below, le-div}
use lib.Pow.{pow-add}
use Rattle.number38.specs.Digits.{significant_digits}
use Rattle.number38.specs.DigitLaws.{ten_pow_pos, ten_pow_join, significant_digits-zero, few_digits, many_digits, mul_ten_pow_pos, pos_from_last, ten_pow-more}
use Rattle.number38.specs.NumberLaws.{unsigned_abs-signed}
use Rattle.number38.specs.Number.{signed, is_in_range, least, limit}
use Rattle.number38.specs.Text.{valued}
use Rattle.number38.specs.declared.number.NumberFault.{NumberFault}
use Rattle.number38.specs.declared.number.NumberFault.TheVariants.{TooManyDigits, OutOfRange}
use Rattle.number38.proofs.RangeLaws.{below_pow, above_pow, not_in_range_below, not_in_range_above}

pub valued-many : (b : Bool) (m right left : ℕ) → 38 < significant_digits m → valued b m right left ≡ Err TooManyDigits
unfolding valued
valued-many b m right left h = grind (arith, nat_tests)

pub valued-zero : (b : Bool) (m right left : ℕ) → m ≡ 0 → valued b m right left ≡ Ok (pos 0)
unfolding valued
valued-zero b m right left e =
    let none : significant_digits m ≡ 0 = ap significant_digits e ∙ significant_digits-zero in
    grind (arith, nat_tests)

-- the answer once the quotient is known
abbrev answer : Bool → ℕ → ℕ → Result ℤ NumberFault
answer b m n = cond (ltb 38 (significant_digits m)) (Err TooManyDigits) (cond (eqb m 0) (Ok (pos 0)) (cond (is_in_range n) (Ok (signed b n)) (Err OutOfRange)))

answer-in : (b : Bool) (m n : ℕ) → significant_digits m ≤ 38 → 0 < m → IsTrue (is_in_range n) → answer b m n ≡ Ok (signed b n)
answer-in b m n few some inside = cond-false _ _ _ (le-ltb 38 (significant_digits m) few) ∙ cond-false _ _ _ (ne_eqb m 0 (λ e. omega arith)) ∙ cond-true _ _ _ inside

answer-out : (b : Bool) (m n : ℕ) → significant_digits m ≤ 38 → 0 < m → is_in_range n ≡ false → answer b m n ≡ Err OutOfRange
answer-out b m n few some outside = cond-false _ _ _ (le-ltb 38 (significant_digits m) few) ∙ cond-false _ _ _ (ne_eqb m 0 (λ e. omega arith)) ∙ cond-false _ _ _ outside

pub valued-in : (b : Bool) (m right left n : ℕ) → significant_digits m ≤ 38 → 0 < m → m * 10 ^ (167 + right) / 10 ^ left ≡ n → IsTrue (is_in_range n) → valued b m right left ≡ Ok (signed b n)
unfolding valued
valued-in b m right left n few some is inside = ap (answer b m) is ∙ answer-in b m n few some inside

valued-out : (b : Bool) (m right left n : ℕ) → significant_digits m ≤ 38 → 0 < m → m * 10 ^ (167 + right) / 10 ^ left ≡ n → is_in_range n ≡ false → valued b m right left ≡ Err OutOfRange
unfolding valued
valued-out b m right left n few some is outside = ap (answer b m) is ∙ answer-out b m n few some outside

-- Moved by p places in all, the coefficient has p zeros behind it.
moved_is : (c z right left p : ℕ) → p + left ≡ 167 + z + right → c * 10 ^ z * 10 ^ (167 + right) / 10 ^ left ≡ c * 10 ^ p
moved_is c z right left p h =
    ap (λ (n : ℕ). n / 10 ^ left) (ten_pow_join c z (167 + right) ∙ ap (λ (k : ℕ). c * 10 ^ k) (omega arith) ∙ sym (ten_pow_join c p left)) ∙ mul-div_cancel (c * 10 ^ p) (ten_pow_pos left)

pub valued-moved : (b : Bool) (c z right left p : ℕ) (o : Option ℤ) → 0 < c % 10 → c < 10 ^ 38 → p + left ≡ 167 + z + right
    → SomeIff o (IsTrue (is_in_range (c * 10 ^ p))) (signed b (c * 10 ^ p)) → ok_or o OutOfRange ≡ valued b (c * 10 ^ z) right left
valued-moved b c z right left p (Some x) h small e (inside, same) =
    ap Ok same ∙ sym (valued-in b (c * 10 ^ z) right left (c * 10 ^ p) (few_digits c z h small) (omega (arith, mul_ten_pow_pos c z (pos_from_last c h))) (moved_is c z right left p e) inside)
valued-moved b c z right left p None h small e outside =
    sym (valued-out b (c * 10 ^ z) right left (c * 10 ^ p) (few_digits c z h small) (omega (arith, mul_ten_pow_pos c z (pos_from_last c h))) (moved_is c z right left p e)
    (false_from_ne_true (is_in_range (c * 10 ^ p)) (λ t. outside (grind arith))))

quotient_below : (c z right left : ℕ) → c < 10 ^ 38 → 167 + z + right < left → c * 10 ^ z * 10 ^ (167 + right) / 10 ^ left < least
unfolding least
quotient_below c z right left small far =
    let wide : c * 10 ^ (z + (167 + right)) < 10 ^ (37 + left) = below_pow 37 (z + (167 + right)) (37 + left) c small (omega arith) in
    let whole : c * 10 ^ z * 10 ^ (167 + right) ≡ c * 10 ^ (z + (167 + right)) = ten_pow_join c z (167 + right) in
    let parts : 10 ^ (37 + left) ≡ 10 ^ 37 * 10 ^ left = pow-add 10 37 left in
    div_below (c * 10 ^ z * 10 ^ (167 + right)) (10 ^ left) (10 ^ 37) (ten_pow_pos left) (omega arith)

quotient_above : (c z right left : ℕ) → 0 < c → 293 + left ≤ 167 + z + right → limit ≤ c * 10 ^ z * 10 ^ (167 + right) / 10 ^ left
unfolding limit
quotient_above c z right left some far =
    let wide : 10 ^ (293 + left) ≤ c * 10 ^ (z + (167 + right)) = above_pow 0 (z + (167 + right)) (293 + left) c some (omega arith) in
    let whole : c * 10 ^ z * 10 ^ (167 + right) ≡ c * 10 ^ (z + (167 + right)) = ten_pow_join c z (167 + right) in
    let parts : 10 ^ (293 + left) ≡ 10 ^ 293 * 10 ^ left = pow-add 10 293 left in
    le-div (10 ^ 293) (c * 10 ^ z * 10 ^ (167 + right)) (10 ^ left) (ten_pow_pos left) (omega arith)

-- moved too far to the left
pub valued-small : (b : Bool) (c z right left : ℕ) → 0 < c % 10 → c < 10 ^ 38 → 167 + z + right < left → valued b (c * 10 ^ z) right left ≡ Err OutOfRange
valued-small b c z right left h small far =
    valued-out b (c * 10 ^ z) right left _ (few_digits c z h small) (omega (arith, mul_ten_pow_pos c z (pos_from_last c h))) refl
    (not_in_range_below _ (quotient_below c z right left small far))

-- moved too far to the right
pub valued-large : (b : Bool) (c z right left : ℕ) → 0 < c % 10 → c < 10 ^ 38 → 293 + left ≤ 167 + z + right → valued b (c * 10 ^ z) right left ≡ Err OutOfRange
valued-large b c z right left h small far =
    valued-out b (c * 10 ^ z) right left _ (few_digits c z h small) (omega (arith, mul_ten_pow_pos c z (pos_from_last c h))) refl
    (not_in_range_above _ (quotient_above c z right left (pos_from_last c h) far))

-- ---- an exponent that is past the end of its type

-- the place of an exponent that was bounded stays past the range
pub bounded-right : (b : Bool) (c z places k moved : ℕ) → 0 < c % 10 → c < 10 ^ 38 → z < 2 ^ 63 → places < 2 ^ 63 → moved ≡ min k (2 ^ 64 - 1)
    → valued b (c * 10 ^ z) moved places ≡ valued b (c * 10 ^ z) k places
bounded-right b c z places k moved h small few short e =
    ⊎_elim (λ (l : k < 2 ^ 64). ap (λ (x : ℕ). valued b (c * 10 ^ z) x places) (omega arith))
    (λ (g : 2 ^ 64 ≤ k). valued-large b c z moved places h small (omega arith) ∙ sym (valued-large b c z k places h small (omega arith))) (cases_lt k (2 ^ 64))

pub bounded-left : (b : Bool) (c z places k moved : ℕ) → 0 < c % 10 → c < 10 ^ 38 → z < 2 ^ 63 → places < 2 ^ 63 → moved ≡ min k (2 ^ 64 - 1)
    → valued b (c * 10 ^ z) 0 (places + moved) ≡ valued b (c * 10 ^ z) 0 (places + k)
bounded-left b c z places k moved h small few short e =
    ⊎_elim (λ (l : k < 2 ^ 64). ap (λ (x : ℕ). valued b (c * 10 ^ z) 0 (places + x)) (omega arith))
    (λ (g : 2 ^ 64 ≤ k). valued-small b c z 0 (places + moved) h small (omega arith) ∙ sym (valued-small b c z 0 (places + k) h small (omega arith))) (cases_lt k (2 ^ 64))

-- ---- nothing is rounded

-- a number as digits that end in no zero, and the zeros behind them
record Parted (n : ℕ) : Type 0 where
  coefficient : ℕ
  zeros : ℕ
  last : 0 < coefficient % 10
  whole : n ≡ coefficient * 10 ^ zeros

parted : (most n : ℕ) → 0 < n → n ≤ most → Parted n
parted zero n some within = absurd (omega arith)
parted (suc most) n some within =
    ⊎_elim
    (λ (ends : n % 10 ≡ 0).
    let rest = parted most (n / 10) (omega arith) (omega arith) in
    record {
      coefficient = rest.coefficient;
      zeros = rest.zeros + 1;
      last = rest.last;
      whole = omega (arith, rest.whole, ten_pow-more rest.coefficient rest.zeros);
    })
    (λ (other : n % 10 ≢ 0). record { coefficient = n; zeros = 0; last = omega arith; whole = sym (ap (λ (x : ℕ). n * x) (pow-zero 10) ∙ mul-one n) })
    (cases_eq (n % 10) 0)

refused : {A : Type 0} (r : Result ℤ NumberFault) (e : NumberFault) (z : ℤ) → r ≡ Err e → r ≡ Ok z → A
refused r e z wrong right = absurd (cc)

exact_in : (b : Bool) (c k right left p : ℕ) (z : ℤ) → 0 < c % 10 → c < 10 ^ 38 → p + left ≡ 167 + k + right → (inside : Bool) → is_in_range (c * 10 ^ p) ≡ inside
    → valued b (c * 10 ^ k) right left ≡ Ok z → unsigned_abs z * 10 ^ left ≡ c * 10 ^ k * 10 ^ (167 + right)
exact_in b c k right left p z last small moved true inside e =
    let some : 0 < c * 10 ^ k = omega (arith, mul_ten_pow_pos c k (pos_from_last c last)) in
    let is = valued-in b (c * 10 ^ k) right left (c * 10 ^ p) (few_digits c k last small) some (moved_is c k right left p moved) (grind arith) in
    let same : signed b (c * 10 ^ p) ≡ z = cc in
    ap (λ (y : ℤ). unsigned_abs y * 10 ^ left) (sym same) ∙ ap (λ (n : ℕ). n * 10 ^ left) (unsigned_abs-signed b (c * 10 ^ p))
    ∙ ten_pow_join c p left ∙ ap (λ (n : ℕ). c * 10 ^ n) (omega arith) ∙ sym (ten_pow_join c k (167 + right))
exact_in b c k right left p z last small moved false outside e =
    let some : 0 < c * 10 ^ k = omega (arith, mul_ten_pow_pos c k (pos_from_last c last)) in
    refused _ OutOfRange z (valued-out b (c * 10 ^ k) right left (c * 10 ^ p) (few_digits c k last small) some (moved_is c k right left p moved) outside) e

exact_some : (b : Bool) (c k right left : ℕ) (z : ℤ) → 0 < c % 10 → valued b (c * 10 ^ k) right left ≡ Ok z → unsigned_abs z * 10 ^ left ≡ c * 10 ^ k * 10 ^ (167 + right)
exact_some b c k right left z last e =
    ⊎_elim
    (λ (small : c < 10 ^ 38).
    ⊎_elim
    (λ (far : 167 + k + right < left). refused _ OutOfRange z (valued-small b c k right left last small far) e)
    (λ (near : left ≤ 167 + k + right). exact_in b c k right left (167 + k + right - left) z last small (omega arith) (is_in_range (c * 10 ^ (167 + k + right - left))) refl e)
    (cases_lt (167 + k + right) left))
    (λ (large : 10 ^ 38 ≤ c). refused _ TooManyDigits z (valued-many b (c * 10 ^ k) right left (many_digits c k last large)) e)
    (cases_lt c (10 ^ 38))

-- where there is an answer, the quotient is exact
pub valued_exactly : (b : Bool) (m right left : ℕ) (z : ℤ) → valued b m right left ≡ Ok z → unsigned_abs z * 10 ^ left ≡ m * 10 ^ (167 + right)
valued_exactly b m right left z e =
    ⊎_elim
    (λ (none : m ≡ 0).
    let same : pos 0 ≡ z = (let is = valued-zero b m right left none in cc) in
    let zero_left : 0 * 10 ^ left ≡ 0 * 10 ^ (167 + right) = omega arith in
    ap (λ (y : ℤ). unsigned_abs y * 10 ^ left) (sym same) ∙ zero_left ∙ ap (λ (n : ℕ). n * 10 ^ (167 + right)) (sym none))
    (λ (some : m ≢ 0).
    let parts = parted m m (omega arith) (omega arith) in
    exact_some b parts.coefficient parts.zeros right left z parts.last (ap (λ (n : ℕ). valued b n right left) (sym parts.whole) ∙ e)
    ∙ ap (λ (n : ℕ). n * 10 ^ (167 + right)) (sym parts.whole))
    (cases_eq m 0)
