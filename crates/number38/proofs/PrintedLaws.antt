-- The text of a coefficient with zeros behind it, or with a point in it.
use Rattle.std.proofs.Common.{◌≡◌, ℕ, zero, suc, ◌+◌, ◌-◌, ◌*◌, ◌/◌, ◌%◌, ◌^◌, ◌<◌, ◌≤◌, ◌≢◌, Bool, true, false, eqb, List, [], ◌∷◌, ◌++◌, length, replicate, decimal, sym, refl, ap, ◌∙◌, subst, arith, append_assoc, add_comm, add-one, ⊎_elim}
use Rattle.std.proofs.lemmas.Bool.{cond-true, cond-false, eq-eqb, ne_eqb, cases_eq}
use Rattle.std.proofs.lemmas.List.{map-append, replicate_more, append-nil}
use Rattle.std.proofs.lemmas.Fmt.{decimal_by_steps_wide, decimal_digit}
use Rattle.std.proofs.lemmas.Int.Digits.{digits_of_step, length-digits_of_step}
use Rattle.std.proofs.lemmas.Nat.{div-mul-add, mod-mul-add, div_below, div-add-mod', mod_below}
use Rattle.std.proofs.Math.Nat.{mul-div_cancel, mul-mod_left, mul-lt-mul_of_pos_right, pow-suc, pow-zero, mul-one, mul_assoc, mul-add-mod_self_right}
use lib.Pow.{pow-add}
use Rattle.std.specs.Int.Digits.{digits_of}
use Rattle.number38.specs.Printed.{digits_text, whole_text, padded_text, trimmed_text, point_text, text_with, printed}
use Rattle.number38.specs.Number.{signed}
use Rattle.number38.specs.DigitLaws.{ten_pow-suc, ten_pow_pos, ten_pow_join, length_digits_is, mul_ten_pow_pos}

-- the last digit, and the digits before it
pub text_step : (n : ℕ) → 0 < n → digits_text (digits_of 10 n) ≡ digits_text (digits_of 10 (n / 10)) ++ (48 + n % 10) ∷ []
text_step n p = ap digits_text (digits_of_step 10 n (omega arith) p) ∙ map-append (λ d. 48 + d) (digits_of 10 (n / 10)) (n % 10 ∷ [])

text_digit : (n : ℕ) → n < 10 → 0 < n → (48 + n) ∷ [] ≡ digits_text (digits_of 10 n)
text_digit n h p =
    let none : n / 10 ≡ 0 = omega arith in
    let last : n % 10 ≡ n = omega arith in
    sym (text_step n p ∙ ap (λ (m : ℕ). digits_text (digits_of 10 m) ++ (48 + n % 10) ∷ []) none ∙ ap (λ (d : ℕ). (48 + d) ∷ []) last)

-- `{n}` writes the digits
decimal_text : (n : ℕ) → n < 10 ^ 64 → 0 < n → decimal n ≡ digits_text (digits_of 10 n)
decimal_text n h =
    decimal_by_steps_wide (λ (m : ℕ) (ds : List ℕ). 0 < m → ds ≡ digits_text (digits_of 10 m)) (λ (m : ℕ) (small : m < 10) p. text_digit m small p)
    (λ (m : ℕ) (ds : List ℕ) (large : 10 ≤ m) (front : 0 < m / 10 → ds ≡ digits_text (digits_of 10 (m / 10))) p. ap (λ (xs : List ℕ). xs ++ (48 + m % 10) ∷ []) (front (omega arith)) ∙ sym (text_step m p)) n h

pub decimal-whole_text : (n : ℕ) → n < 10 ^ 64 → decimal n ≡ whole_text n
decimal-whole_text n h =
    ⊎_elim
    (λ (e : n ≡ 0). ap decimal e ∙ decimal_digit 0 (omega arith) ∙ sym (ap whole_text e))
    (λ (ne : n ≢ 0). decimal_text n h (omega arith) ∙ sym (cond-false _ _ _ (ne_eqb n 0 ne))) (cases_eq n 0)

-- ---- zeros behind the digits

text_ten : (n : ℕ) → 0 < n → digits_text (digits_of 10 (n * 10)) ≡ digits_text (digits_of 10 n) ++ 48 ∷ []
text_ten n p =
    text_step (n * 10) (omega arith) ∙ ap (λ (m : ℕ). digits_text (digits_of 10 m) ++ (48 + n * 10 % 10) ∷ []) (mul-div_cancel n (omega arith))
    ∙ ap (λ (d : ℕ). digits_text (digits_of 10 n) ++ (48 + d) ∷ []) (mul-mod_left n 10)

text_zeros : (c j : ℕ) → 0 < c → digits_text (digits_of 10 (c * 10 ^ j)) ≡ digits_text (digits_of 10 c) ++ replicate j 48
text_zeros c zero p = ap (λ (n : ℕ). digits_text (digits_of 10 n)) (ap (λ (x : ℕ). c * x) (pow-zero 10) ∙ mul-one c) ∙ sym (append-nil (digits_text (digits_of 10 c)))
text_zeros c (suc j) p =
    ap (λ (n : ℕ). digits_text (digits_of 10 n)) (ten_pow-suc c j) ∙ text_ten (c * 10 ^ j) (omega (arith, mul_ten_pow_pos c j p))
    ∙ ap (λ (xs : List ℕ). xs ++ 48 ∷ []) (text_zeros c j p) ∙ append_assoc (digits_text (digits_of 10 c)) (replicate j 48) (48 ∷ [])
    ∙ ap (λ (xs : List ℕ). digits_text (digits_of 10 c) ++ xs) (replicate_more j 48 ∙ ap (λ (k : ℕ). replicate k 48) (add-one j))

whole_text-zeros : (c j : ℕ) → 0 < c → whole_text (c * 10 ^ j) ≡ whole_text c ++ replicate j 48
whole_text-zeros c j p =
    cond-false _ _ _ (ne_eqb (c * 10 ^ j) 0 (λ e. omega (arith, mul_ten_pow_pos c j p))) ∙ text_zeros c j p
    ∙ ap (λ (xs : List ℕ). xs ++ replicate j 48) (sym (cond-false _ _ _ (ne_eqb c 0 (λ e. omega arith))))

-- ---- digits in a fixed width

padded-zero : (k : ℕ) → padded_text k 0 ≡ replicate k 48
padded-zero zero = refl
padded-zero (suc k) = ap (λ (xs : List ℕ). xs ++ 48 ∷ []) (padded-zero k) ∙ replicate_more k 48 ∙ ap (λ (n : ℕ). replicate n 48) (add-one k)

width_step : (k l n : ℕ) → length (digits_of 10 n) ≡ l + 1 → suc k - length (digits_of 10 n) ≡ k - l
width_step k l n h = omega arith

less_zero : (k : ℕ) → suc k ≡ suc k - 0
less_zero k = omega arith

pub padded-is : (k n : ℕ) → n < 10 ^ k → padded_text k n ≡ replicate (k - length (digits_of 10 n)) 48 ++ digits_text (digits_of 10 n)
padded-is zero n h =
    let none : n ≡ 0 = omega (arith, pow-zero 10) in
    ap (λ (m : ℕ). replicate (0 - length (digits_of 10 m)) 48 ++ digits_text (digits_of 10 m)) (sym none)
padded-is (suc k) n h =
    ⊎_elim
    (λ (e : n ≡ 0). ap (padded_text (suc k)) e ∙ padded-zero (suc k) ∙ sym (append-nil (replicate (suc k) 48)) ∙ ap (λ (j : ℕ). replicate j 48 ++ []) (less_zero k) ∙ ap (λ (m : ℕ). replicate (suc k - length (digits_of 10 m)) 48 ++ digits_text (digits_of 10 m)) (sym e))
    (λ (ne : n ≢ 0).
    let p : 0 < n = omega arith in
    let front : n / 10 < 10 ^ k = div_below n 10 (10 ^ k) (omega arith) (omega (arith, pow-suc 10 k)) in
    let l : ℕ = length (digits_of 10 (n / 10)) in
    ap (λ (xs : List ℕ). xs ++ (48 + n % 10) ∷ []) (padded-is k (n / 10) front)
    ∙ append_assoc (replicate (k - l) 48) (digits_text (digits_of 10 (n / 10))) ((48 + n % 10) ∷ [])
    ∙ ap (λ (xs : List ℕ). replicate (k - l) 48 ++ xs) (sym (text_step n p))
    ∙ ap (λ (j : ℕ). replicate j 48 ++ digits_text (digits_of 10 n)) (sym (width_step k l n (length-digits_of_step 10 n (omega arith) p))))
    (cases_eq n 0)

-- ---- the digits behind the point

trimmed-zero : (k : ℕ) → trimmed_text k 0 ≡ []
trimmed-zero zero = refl
trimmed-zero (suc k) = trimmed-zero k

trimmed_step : (k n : ℕ) → trimmed_text (suc k) (n * 10) ≡ trimmed_text k n
trimmed_step k n = cond-true (eqb (n * 10 % 10) 0) _ _ (eq-eqb (n * 10 % 10) 0 (mul-mod_left n 10)) ∙ ap (trimmed_text k) (mul-div_cancel n (omega arith))

suc_sum : (p k : ℕ) → suc p + k ≡ suc (p + k)
suc_sum p k = omega arith

zero_sum : (k : ℕ) → 0 + k ≡ k
zero_sum k = omega arith

trimmed-mul : (p k n : ℕ) → trimmed_text (p + k) (n * 10 ^ p) ≡ trimmed_text k n
trimmed-mul zero k n = ap (λ (j : ℕ). trimmed_text j (n * 10 ^ 0)) (zero_sum k) ∙ ap (trimmed_text k) (ap (λ (x : ℕ). n * x) (pow-zero 10) ∙ mul-one n)
trimmed-mul (suc p) k n =
    ap (λ (j : ℕ). trimmed_text j (n * 10 ^ suc p)) (suc_sum p k) ∙ ap (trimmed_text (suc (p + k))) (ten_pow-suc n p)
    ∙ trimmed_step (p + k) (n * 10 ^ p) ∙ trimmed-mul p k n

trimmed-stripped : (k n : ℕ) → 0 < n % 10 → trimmed_text (suc k) n ≡ padded_text (suc k) n
trimmed-stripped k n h = cond-false (eqb (n % 10) 0) _ _ (ne_eqb (n % 10) 0 (λ e. omega arith))

point-last : (xs : List ℕ) (d : ℕ) → point_text (xs ++ d ∷ []) ≡ 46 ∷ (xs ++ d ∷ [])
point-last [] d = refl
point-last (x ∷ xs) d = refl

-- ---- the text of a coefficient with zeros behind it

pub text_with-zeros : (k c j : ℕ) → text_with k (c * 10 ^ (j + k)) ≡ whole_text (c * 10 ^ j)
unfolding text_with
text_with-zeros k c j =
    let split : c * 10 ^ (j + k) ≡ c * 10 ^ j * 10 ^ k = sym (ten_pow_join c j k) in
    ap (λ (n : ℕ). whole_text (n / 10 ^ k) ++ point_text (trimmed_text k (n % 10 ^ k))) split
    ∙ ap (λ (n : ℕ). whole_text n ++ point_text (trimmed_text k (c * 10 ^ j * 10 ^ k % 10 ^ k))) (mul-div_cancel (c * 10 ^ j) (ten_pow_pos k))
    ∙ ap (λ (n : ℕ). whole_text (c * 10 ^ j) ++ point_text (trimmed_text k n)) (mul-mod_left (c * 10 ^ j) (10 ^ k))
    ∙ ap (λ (xs : List ℕ). whole_text (c * 10 ^ j) ++ point_text xs) (trimmed-zero k) ∙ append-nil (whole_text (c * 10 ^ j))

-- ---- the text of a coefficient with a point in it

record Quotient (c m q : ℕ) : Type 0 where
  whole : c * q / (m * q) ≡ c / m
  rest : c * q % (m * q) ≡ c % m * q

quotient : (c m q : ℕ) → 0 < m → 0 < q → Quotient c m q
quotient c m q p r =
    let parts : c ≡ c / m * m + c % m = sym (div-add-mod' c m) in
    let wide : c * q ≡ c / m * (m * q) + c % m * q = ap (λ (x : ℕ). x * q) parts ∙ widen (c / m) m (c % m) q in
    let small : c % m * q < m * q = mul-lt-mul_of_pos_right (mod_below c m p) r in
    record { whole = ap (λ (x : ℕ). x / (m * q)) wide ∙ div-mul-add (c / m) (m * q) (c % m * q) small; rest = ap (λ (x : ℕ). x % (m * q)) wide ∙ mod-mul-add (c / m) (m * q) (c % m * q) small }
  where
    widen : (a m b q : ℕ) → (a * m + b) * q ≡ a * (m * q) + b * q
    widen a m b q = omega arith

pub last_of_rest : (c k : ℕ) → c % 10 ^ suc k % 10 ≡ c % 10
last_of_rest c k =
    let m : ℕ = 10 ^ suc k in
    let tens : m ≡ 10 ^ k * 10 = pow-suc 10 k in
    let parts : c ≡ c / m * 10 ^ k * 10 + c % m = sym (div-add-mod' c m) ∙ ap (λ (x : ℕ). c / m * x + c % m) tens ∙ ap (λ (x : ℕ). x + c % m) (sym (mul_assoc (c / m) (10 ^ k) 10)) in
    sym (ap (λ (x : ℕ). x % 10) parts ∙ mul-add-mod_self_right (c / m * 10 ^ k) 10 (c % m))

pub text_with-point : (p k c : ℕ) → 0 < c % 10 → text_with (p + suc k) (c * 10 ^ p) ≡ whole_text (c / 10 ^ suc k) ++ 46 ∷ padded_text (suc k) (c % 10 ^ suc k)
unfolding text_with
text_with-point p k c h =
    let m : ℕ = 10 ^ suc k in
    let q : ℕ = 10 ^ p in
    let one : 10 ^ (p + suc k) ≡ m * q = ap (λ (x : ℕ). 10 ^ x) (add_comm p (suc k)) ∙ pow-add 10 (suc k) p in
    let parts : Quotient c m q = quotient c m q (ten_pow_pos (suc k)) (ten_pow_pos p) in
    ap (λ (x : ℕ). whole_text (c * q / x) ++ point_text (trimmed_text (p + suc k) (c * q % x))) one
    ∙ ap (λ (n : ℕ). whole_text n ++ point_text (trimmed_text (p + suc k) (c * q % (m * q)))) parts.whole
    ∙ ap (λ (n : ℕ). whole_text (c / m) ++ point_text (trimmed_text (p + suc k) n)) parts.rest
    ∙ ap (λ (xs : List ℕ). whole_text (c / m) ++ point_text xs) (trimmed-mul p (suc k) (c % m) ∙ trimmed-stripped k (c % m) (subst (λ (x : ℕ). 0 < x) (sym (last_of_rest c k)) h))
    ∙ ap (λ (xs : List ℕ). whole_text (c / m) ++ xs) (point-last (padded_text k (c % m / 10)) (48 + c % m % 10))

-- the digits behind the point end in no zero, and are not more than their places
pub last_of_place : (c k : ℕ) → 0 < k → c % 10 ^ k % 10 ≡ c % 10
last_of_place c zero h = absurd (omega arith)
last_of_place c (suc k) h = last_of_rest c k

-- what the writes one after the other leave
pub pointed_whole : (b0 b1 b2 b3 b4 : List ℕ) (w f k l : ℕ) → b1 ≡ b0 ++ decimal w → b2 ≡ b1 ++ 46 ∷ [] → b3 ≡ b2 ++ replicate (k - (l + 1)) 48 → b4 ≡ b3 ++ decimal f
    → w < 10 ^ 64 → f < 10 ^ 64 → 0 < f → f < 10 ^ k → 10 ^ l ≤ f → f < 10 * 10 ^ l → b4 ≡ b0 ++ (whole_text w ++ 46 ∷ padded_text k f)
pointed_whole b0 b1 b2 b3 b4 w f k l e1 e2 e3 e4 small_w small_f some inside low high =
    let count : length (digits_of 10 f) ≡ suc l = length_digits_is l f low (omega (arith, pow-suc 10 l)) in
    let width : k - (l + 1) ≡ k - length (digits_of 10 f) = omega arith in
    let tail : replicate (k - (l + 1)) 48 ++ decimal f ≡ padded_text k f =
    ap (λ (ds : List ℕ). replicate (k - (l + 1)) 48 ++ ds) (decimal_text f small_f some) ∙ ap (λ (j : ℕ). replicate j 48 ++ digits_text (digits_of 10 f)) width ∙ sym (padded-is k f inside) in
    e4 ∙ ap (λ (b : List ℕ). b ++ decimal f) (e3 ∙ ap (λ (b : List ℕ). b ++ replicate (k - (l + 1)) 48) (e2 ∙ ap (λ (b : List ℕ). b ++ 46 ∷ []) e1))
    ∙ regroup b0 (decimal w) (46 ∷ []) (replicate (k - (l + 1)) 48) (decimal f)
    ∙ ap (λ (xs : List ℕ). b0 ++ (decimal w ++ 46 ∷ xs)) tail
    ∙ ap (λ (xs : List ℕ). b0 ++ (xs ++ 46 ∷ padded_text k f)) (decimal-whole_text w small_w)
  where
    regroup : (a b c d e : List ℕ) → (((a ++ b) ++ c) ++ d) ++ e ≡ a ++ (b ++ (c ++ (d ++ e)))
    regroup a b c d e = simp append_assoc

pub pointed_text : (n p k c : ℕ) → p + k ≡ n → 0 < k → 0 < c % 10 → text_with n (c * 10 ^ p) ≡ whole_text (c / 10 ^ k) ++ 46 ∷ padded_text k (c % 10 ^ k)
pointed_text n p zero c e h last = absurd (omega arith)
pointed_text n p (suc k) c e h last = ap (λ (j : ℕ). text_with j (c * 10 ^ p)) (sym e) ∙ text_with-point p k c last

whole_zeros : (c j : ℕ) → (c ≡ 0 → j ≡ 0) → whole_text (c * 10 ^ j) ≡ whole_text c ++ replicate j 48
whole_zeros c j h =
    ⊎_elim
    (λ (e : c ≡ 0). let z = h e in
    ap (λ (k : ℕ). whole_text (c * 10 ^ k)) z ∙ ap whole_text (ap (λ (x : ℕ). c * x) (pow-zero 10) ∙ mul-one c) ∙ sym (append-nil (whole_text c)) ∙ ap (λ (k : ℕ). whole_text c ++ replicate k 48) (sym z))
    (λ (ne : c ≢ 0). whole_text-zeros c j (omega arith)) (cases_eq c 0)

pub zeros_text : (n p j c : ℕ) → j + n ≡ p → c < 10 ^ 64 → (c ≡ 0 → j ≡ 0) → text_with n (c * 10 ^ p) ≡ decimal c ++ replicate j 48
zeros_text n p j c e small h =
    ap (λ (k : ℕ). text_with n (c * 10 ^ k)) (sym e) ∙ text_with-zeros n c j ∙ whole_zeros c j h ∙ ap (λ (xs : List ℕ). xs ++ replicate j 48) (sym (decimal-whole_text c small))

abbrev pub sign_code : Bool → List ℕ
sign_code false = []
sign_code true = 45 ∷ []

pub printed-signed : (b : Bool) (n : ℕ) → (b ≡ true → 0 < n) → printed (signed b n) ≡ sign_code b ++ text_with 167 n
printed-signed false n h = refl
printed-signed true zero h = absurd (omega (arith, h refl))
printed-signed true (suc n) h = refl
