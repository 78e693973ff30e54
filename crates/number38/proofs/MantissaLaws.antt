-- The value of digits, and how many of them count.
use Rattle.std.proofs.Common.{◌≡◌, ℕ, zero, suc, ◌+◌, ◌-◌, ◌*◌, ◌/◌, ◌%◌, ◌^◌, ◌<◌, ◌≤◌, ◌≢◌, min, List, [], ◌∷◌, ◌++◌, length, drop, get_or, sym, refl, ap, ◌∙◌, subst, arith, ⊎_elim, le_trans, add-one, Option, Some, None, IfNone}
use Rattle.std.proofs.lemmas.Bool.{cases_eq}
use Rattle.std.proofs.lemmas.Bool.Decides.{nat_tests}
use Rattle.std.specs.Char.{digit_value}
use Rattle.std.specs.Str.Parse.{AllDigits, digits_value_after}
use Rattle.std.specs.Int.Digits.{digits_of}
use Rattle.std.proofs.lemmas.Int.Digits.{length-digits_of-le, number_digits_of, number_lt, all_below_base_digits_of, length-digits_of_step}
use Rattle.std.proofs.Math.Nat.{pow-zero, mul-one, mul-le-mul_left}
use Rattle.std.proofs.Math.Seq.{drop-cons}
use Rattle.number38.specs.Digits.{significant_digits}
use Rattle.number38.specs.DigitLaws.{significant_digits-mul, significant_digits-zero, ten_pow-suc, ten_pow_pos, ten_pow_join}

-- a coefficient that ends in no zero, and the zeros behind it
record Split (n : ℕ) : Type 0 where
  coefficient : ℕ
  zeros : ℕ
  is : n ≡ coefficient * 10 ^ zeros
  stripped : 0 < coefficient % 10

split_within : (most n : ℕ) → n ≤ most → 0 < n → Split n
split_within zero n h p = absurd (omega arith)
split_within (suc most) n h p =
    ⊎_elim
    (λ (e : n % 10 ≡ 0).
    let s : Split (n / 10) = split_within most (n / 10) (omega arith) (omega arith) in
    let whole : n ≡ n / 10 * 10 = omega arith in
    record { coefficient = s.coefficient; zeros = suc s.zeros; is = whole ∙ ap (λ (x : ℕ). x * 10) s.is ∙ sym (ten_pow-suc s.coefficient s.zeros); stripped = s.stripped })
    (λ ne. record { coefficient = n; zeros = 0; is = sym (ap (λ (x : ℕ). n * x) (pow-zero 10) ∙ mul-one n); stripped = omega arith })
    (cases_eq (n % 10) 0)

split : (n : ℕ) → 0 < n → Split n
split n p = split_within n n (omega arith) p

-- a smaller number has no more digits
length_digits_le : (m n : ℕ) → m ≤ n → length (digits_of 10 m) ≤ length (digits_of 10 n)
length_digits_le m n h =
    let below : n < 10 ^ length (digits_of 10 n) =
    subst (λ (x : ℕ). x < 10 ^ length (digits_of 10 n)) (number_digits_of 10 n (omega arith)) (number_lt 10 (digits_of 10 n) (all_below_base_digits_of 10 n (omega arith))) in
    length-digits_of-le 10 (length (digits_of 10 n)) m (omega arith) (omega arith)

significant_le : (n : ℕ) → 0 < n → significant_digits n ≤ length (digits_of 10 n)
significant_le n p =
    let s : Split n = split n p in
    let count : significant_digits n ≡ length (digits_of 10 s.coefficient) = ap significant_digits s.is ∙ significant_digits-mul s.coefficient s.zeros s.stripped in
    let small : s.coefficient ≤ n = omega (arith, mul-le-mul_left s.coefficient (ten_pow_pos s.zeros), s.is) in
    omega (arith, length_digits_le s.coefficient n small)

step_from_zero : (n d : ℕ) → n ≡ 0 → significant_digits n ≤ significant_digits (n * 10 + d)
step_from_zero n d e = let none : significant_digits n ≡ 0 = ap significant_digits e ∙ significant_digits-zero in omega arith

-- a zero
step_by_zero : (n : ℕ) → 0 < n → significant_digits (n * 10) ≡ significant_digits n
step_by_zero n p =
    let s : Split n = split n p in
    ap significant_digits (ap (λ (x : ℕ). x * 10) s.is ∙ sym (ten_pow-suc s.coefficient s.zeros)) ∙ significant_digits-mul s.coefficient (suc s.zeros) s.stripped
    ∙ sym (ap significant_digits s.is ∙ significant_digits-mul s.coefficient s.zeros s.stripped)

-- another digit
step_by_digit : (n d : ℕ) → d < 10 → 0 < d → 0 < n → significant_digits n ≤ significant_digits (n * 10 + d)
step_by_digit n d h q p =
    let m : ℕ = n * 10 + d in
    let last : 0 < m % 10 = omega arith in
    let here : significant_digits m ≡ length (digits_of 10 m) = ap significant_digits (sym (ap (λ (x : ℕ). m * x) (pow-zero 10) ∙ mul-one m)) ∙ significant_digits-mul m 0 last in
    let tens : m / 10 ≡ n = omega arith in
    let front : length (digits_of 10 (m / 10)) ≡ length (digits_of 10 n) = ap (λ (x : ℕ). length (digits_of 10 x)) tens in
    omega (arith, here, front, length-digits_of_step 10 m (omega arith) (omega arith), significant_le n p)

nothing_more : (n d : ℕ) → d ≡ 0 → n * 10 + d ≡ n * 10
nothing_more n d e = omega arith

step_from_some : (n d : ℕ) → d < 10 → 0 < n → significant_digits n ≤ significant_digits (n * 10 + d)
step_from_some n d h p =
    ⊎_elim
    (λ (e : d ≡ 0). let same : significant_digits (n * 10 + d) ≡ significant_digits n = ap significant_digits (nothing_more n d e) ∙ step_by_zero n p in omega arith)
    (λ (ne : d ≢ 0). step_by_digit n d h (omega arith) p) (cases_eq d 0)

-- A further digit takes none away.
significant_step : (n d : ℕ) → d < 10 → significant_digits n ≤ significant_digits (n * 10 + d)
significant_step n d h = ⊎_elim (step_from_zero n d) (λ (ne : n ≢ 0). step_from_some n d h (omega arith)) (cases_eq n 0)

pub significant_more : (n : ℕ) (ds : List ℕ) → AllDigits 10 ds → significant_digits n ≤ significant_digits (digits_value_after 10 n ds)
significant_more n [] a = omega arith
significant_more n (d ∷ ds) a = le_trans (significant_step n (digit_value d) a.0) (significant_more (n * 10 + digit_value d) ds a.1)

pub AllDigits-drop : (xs : List ℕ) (i : ℕ) → AllDigits 10 xs → AllDigits 10 (drop i xs)
AllDigits-drop xs zero a = a
AllDigits-drop [] (suc i) a = tt
AllDigits-drop (x ∷ xs) (suc i) a = AllDigits-drop xs i a.1

-- the digit at a place, and the digits behind it
pub drop_at : (xs : List ℕ) (i : ℕ) → i < length xs → drop i xs ≡ get_or xs i 0 ∷ drop (i + 1) xs
drop_at xs i h = drop-cons xs i 0 h ∙ ap (λ (k : ℕ). get_or xs i 0 ∷ drop k xs) (sym (add-one i))

pub digit_minus : (c : ℕ) → digit_value c < 10 → (48 ≤ c) × (c - 48 ≡ digit_value c)
digit_minus c h = grind (arith, nat_tests)

-- to bound a value on the way changes nothing
pub bounded_after : (most a b : ℕ) (ds : List ℕ) → min a most ≡ min b most → min (digits_value_after 10 a ds) most ≡ min (digits_value_after 10 b ds) most
bounded_after most a b [] h = h
bounded_after most a b (d ∷ ds) h = bounded_after most (a * 10 + digit_value d) (b * 10 + digit_value d) ds (omega arith)

pub digit_at : (xs : List ℕ) (i : ℕ) → AllDigits 10 xs → i < length xs → digit_value (get_or xs i 0) < 10
digit_at xs i a h = (subst (λ (ys : List ℕ). AllDigits 10 ys) (drop_at xs i h) (AllDigits-drop xs i a)).0

-- what is left after one more digit
pub value_step : (xs : List ℕ) (i n : ℕ) → AllDigits 10 xs → i < length xs → digits_value_after 10 n (drop i xs) ≡ digits_value_after 10 (n * 10 + (get_or xs i 0 - 48)) (drop (i + 1) xs)
value_step xs i n a h =
    ap (digits_value_after 10 n) (drop_at xs i h)
    ∙ ap (λ (d : ℕ). digits_value_after 10 (n * 10 + d) (drop (i + 1) xs)) (sym (digit_minus (get_or xs i 0) (digit_at xs i a h)).1)

pub significant_rest : (xs : List ℕ) (i n : ℕ) → AllDigits 10 xs → 38 < significant_digits n → 38 < significant_digits (digits_value_after 10 n (drop i xs))
significant_rest xs i n a h = omega (arith, significant_more n (drop i xs) (AllDigits-drop xs i a))

pub drop_whole : (xs : List ℕ) (i : ℕ) → length xs ≤ i → drop i xs ≡ []
drop_whole [] zero h = refl
drop_whole [] (suc i) h = refl
drop_whole (x ∷ xs) zero h = absurd (omega arith)
drop_whole (x ∷ xs) (suc i) h = drop_whole xs i (omega arith)

-- the digits of two runs, one behind the other
pub digits_value_after-append : (n : ℕ) (xs ys : List ℕ) → digits_value_after 10 n (xs ++ ys) ≡ digits_value_after 10 (digits_value_after 10 n xs) ys
digits_value_after-append n [] ys = refl
digits_value_after-append n (x ∷ xs) ys = digits_value_after-append (n * 10 + digit_value x) xs ys

-- zeros behind a number do not count
pub significant-zeros : (m j : ℕ) → 0 < m → significant_digits (m * 10 ^ j) ≡ significant_digits m
significant-zeros m j p =
    let s : Split m = split m p in
    ap significant_digits (ap (λ (x : ℕ). x * 10 ^ j) s.is ∙ ten_pow_join s.coefficient s.zeros j) ∙ significant_digits-mul s.coefficient (s.zeros + j) s.stripped
    ∙ sym (ap significant_digits s.is ∙ significant_digits-mul s.coefficient s.zeros s.stripped)

-- a fact holds of `None` where it holds
pub if_none : {A P : Type 0} (r : Option A) → P → IfNone r P
if_none None h = h
if_none (Some x) h = tt
