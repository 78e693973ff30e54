-- The printed text of a number denotes it.
use Rattle.std.proofs.Common.{◌≡◌, ◌≢◌, ℕ, zero, suc, ◌+◌, ◌-◌, ◌*◌, ◌/◌, ◌%◌, ◌^◌, ◌<◌, ◌≤◌, Bool, true, false, eqb, IsTrue, List, [], ◌∷◌, ◌++◌, length, Option, Some, None, Ok, sym, refl, ap, ◌∙◌, subst, arith, ⊎_elim, length-append, add-zero}
use Rattle.std.proofs.lemmas.List.{append-nil}
use Rattle.std.specs.Prelude.{unwrap_or}
use Rattle.std.specs.Char.{digit_value}
use Rattle.std.specs.Str.Parse.{AllDigits, digits_value, digits_value_after}
use Rattle.std.specs.Int.Digits.{digits_of, AllBelowBase, number_from_digits_after}
use Rattle.std.proofs.lemmas.Int.Digits.{number_digits_of, all_below_base_digits_of, digits_push}
use Rattle.std.proofs.lemmas.Bool.{cond-true, cond-false, eq-eqb, ne_eqb, cases_eq}
use Rattle.std.proofs.lemmas.Bool.Decides.{nat_tests}
use Rattle.std.proofs.lemmas.Nat.{div_below, mod_below, div-add-mod'}
use Rattle.std.proofs.Math.Nat.{pow-suc, pow-zero, mul-one, mul-div_cancel}
use Rattle.number38.specs.Digits.{significant_digits}
use Rattle.number38.specs.DigitLaws.{ten_pow-suc, ten_pow_pos, ten_pow_join, mul_ten_pow_pos}
use Rattle.number38.specs.Number.{signed, is_in_range}
use Rattle.number38.specs.NumberLaws.{signed-zero}
use Rattle.number38.specs.Text.{Sign, Unsigned, Minus, Numeral, Denotes, sign_text, is_minus, fraction_text, decimals, valued}
use Rattle.number38.specs.Printed.{digits_text, whole_text, padded_text, trimmed_text, point_text, text_with, printed}
use Rattle.number38.proofs.MantissaLaws.{digits_value_after-append, significant-zeros}
use Rattle.number38.proofs.PrintedLaws.{text_step, printed-signed}
use Rattle.number38.proofs.TextLaws.{valued-in, valued-zero}

digit_code : (d : ℕ) → d < 10 → digit_value (48 + d) ≡ d
digit_code d h = grind (arith, nat_tests)

digit_code_below : (d : ℕ) → d < 10 → digit_value (48 + d) < 10
digit_code_below d h = omega (arith, digit_code d h)

-- ---- the whole part

digits_text-AllDigits : (ds : List ℕ) → AllBelowBase 10 ds → AllDigits 10 (digits_text ds)
digits_text-AllDigits [] a = tt
digits_text-AllDigits (d ∷ ds) a = (digit_code_below d a.0, digits_text-AllDigits ds a.1)

text_value : (n : ℕ) (ds : List ℕ) → AllBelowBase 10 ds → digits_value_after 10 n (digits_text ds) ≡ number_from_digits_after 10 n ds
text_value n [] a = refl
text_value n (d ∷ ds) a = ap (λ (x : ℕ). digits_value_after 10 (n * 10 + x) (digits_text ds)) (digit_code d a.0) ∙ text_value (n * 10 + d) ds a.1

-- what a text of a whole part is good for
record IsWhole (n : ℕ) (text : List ℕ) : Type 0 where
  digits : AllDigits 10 text
  value : digits_value 10 text ≡ n
  some : 0 < length text

whole_zero : IsWhole 0 (48 ∷ [])
whole_zero = record { digits = (omega arith, tt); value = refl; some = omega arith }

whole_some : (n : ℕ) → 0 < n → IsWhole n (digits_text (digits_of 10 n))
whole_some n p =
    let below : AllBelowBase 10 (digits_of 10 n) = all_below_base_digits_of 10 n (omega arith) in
    record {
      digits = digits_text-AllDigits (digits_of 10 n) below;
      value = text_value 0 (digits_of 10 n) below ∙ number_digits_of 10 n (omega arith);
      some = subst (λ (xs : List ℕ). 0 < length xs) (sym (text_step n p)) (omega (arith, length-append (digits_text (digits_of 10 (n / 10))) ((48 + n % 10) ∷ [])));
    }

whole_is : (n : ℕ) → IsWhole n (whole_text n)
whole_is n =
    ⊎_elim
    (λ (e : n ≡ 0). subst (λ (m : ℕ). IsWhole m (whole_text m)) (sym e) whole_zero)
    (λ (ne : n ≢ 0). subst (λ (xs : List ℕ). IsWhole n xs) (sym (cond-false (eqb n 0) (48 ∷ []) (digits_text (digits_of 10 n)) (ne_eqb n 0 ne))) (whole_some n (omega arith)))
    (cases_eq n 0)

-- ---- the digits behind the point

padded-AllDigits : (k n : ℕ) → AllDigits 10 (padded_text k n)
padded-AllDigits zero n = tt
padded-AllDigits (suc k) n = digits_push 10 (padded_text k (n / 10)) (48 + n % 10) (padded-AllDigits k (n / 10)) (digit_code_below (n % 10) (omega arith))

padded-length : (k n : ℕ) → length (padded_text k n) ≡ k
padded-length zero n = refl
padded-length (suc k) n = omega (arith, length-append (padded_text k (n / 10)) ((48 + n % 10) ∷ []), padded-length k (n / 10))

padded-value : (w k n : ℕ) → n < 10 ^ k → digits_value_after 10 w (padded_text k n) ≡ w * 10 ^ k + n
padded-value w zero n h = omega (arith, pow-zero 10)
padded-value w (suc k) n h =
    let front : digits_value_after 10 w (padded_text k (n / 10)) ≡ w * 10 ^ k + n / 10 = padded-value w k (n / 10) (div_below n 10 (10 ^ k) (omega arith) (omega (arith, pow-suc 10 k))) in
    digits_value_after-append w (padded_text k (n / 10)) ((48 + n % 10) ∷ [])
    ∙ ap (λ (x : ℕ). x * 10 + digit_value (48 + n % 10)) front
    ∙ omega (arith, digit_code (n % 10) (omega arith), ten_pow-suc w k)

record IsBehind (w k n : ℕ) (text : List ℕ) : Type 0 where
  digits : AllDigits 10 text
  short : length text ≤ k
  value : digits_value_after 10 w text * 10 ^ (k - length text) ≡ w * 10 ^ k + n

behind_nothing : (w n : ℕ) → n < 10 ^ 0 → IsBehind w 0 n []
behind_nothing w n h = record { digits = tt; short = omega arith; value = omega (arith, pow-zero 10) }

behind_zero : (w k n l x : ℕ) → n % 10 ≡ 0 → l ≤ k → x * 10 ^ (k - l) ≡ w * 10 ^ k + n / 10 → x * 10 ^ (suc k - l) ≡ w * 10 ^ suc k + n
behind_zero w k n l x e short h =
    let one : suc k - l ≡ suc (k - l) = omega arith in
    ap (λ (j : ℕ). x * 10 ^ j) one ∙ ten_pow-suc x (k - l) ∙ ap (λ (y : ℕ). y * 10) h ∙ omega (arith, ten_pow-suc w k)

behind_exact : (k l x y : ℕ) → l ≡ k → x ≡ y → x * 10 ^ (k - l) ≡ y
behind_exact k l x y e h =
    let none : k - l ≡ 0 = omega arith in
    ap (λ (j : ℕ). x * 10 ^ j) none ∙ ap (λ (z : ℕ). x * z) (pow-zero 10) ∙ mul-one x ∙ h

behind_is : (w k n : ℕ) → n < 10 ^ k → IsBehind w k n (trimmed_text k n)
behind_is w zero n h = behind_nothing w n h
behind_is w (suc k) n h =
    ⊎_elim
    (λ (e : n % 10 ≡ 0).
    let r : IsBehind w k (n / 10) (trimmed_text k (n / 10)) = behind_is w k (n / 10) (div_below n 10 (10 ^ k) (omega arith) (omega (arith, pow-suc 10 k))) in
    subst (λ (xs : List ℕ). IsBehind w (suc k) n xs) (sym (cond-true (eqb (n % 10) 0) _ _ (eq-eqb (n % 10) 0 e)))
    (record { digits = r.digits; short = omega (arith, r.short); value = behind_zero w k n (length (trimmed_text k (n / 10))) (digits_value_after 10 w (trimmed_text k (n / 10))) e r.short r.value }))
    (λ (ne : n % 10 ≢ 0).
    subst (λ (xs : List ℕ). IsBehind w (suc k) n xs) (sym (cond-false (eqb (n % 10) 0) _ _ (ne_eqb (n % 10) 0 ne)))
    (record {
      digits = padded-AllDigits (suc k) n;
      short = omega (arith, padded-length (suc k) n);
      value = behind_exact (suc k) (length (padded_text (suc k) n)) (digits_value_after 10 w (padded_text (suc k) n)) (w * 10 ^ suc k + n) (padded-length (suc k) n) (padded-value w (suc k) n h);
    }))
    (cases_eq (n % 10) 0)

-- ---- the whole text

record IsPointed (k n : ℕ) (text : List ℕ) : Type 0 where
  whole : ℕ
  behind : List ℕ
  is : text ≡ whole_text whole ++ point_text behind
  digits : AllDigits 10 behind
  short : length behind ≤ k
  value : digits_value_after 10 whole behind * 10 ^ (k - length behind) ≡ n

pointed_is : (k n : ℕ) → IsPointed k n (text_with k n)
unfolding text_with
pointed_is k n =
    let q : ℕ = n / 10 ^ k in
    let r : ℕ = n % 10 ^ k in
    let b : IsBehind q k r (trimmed_text k r) = behind_is q k r (mod_below n (10 ^ k) (ten_pow_pos k)) in
    record { whole = q; behind = trimmed_text k r; is = refl; digits = b.digits; short = b.short; value = b.value ∙ div-add-mod' n (10 ^ k) }

some_text : List ℕ → Option (List ℕ)
some_text [] = None
some_text (d ∷ ds) = Some (d ∷ ds)

some_decimals : (ds : List ℕ) → unwrap_or (some_text ds) [] ≡ ds
unfolding some_text
some_decimals [] = refl
some_decimals (d ∷ ds) = refl

some_fraction : (ds : List ℕ) → fraction_text (some_text ds) ≡ point_text ds
unfolding some_text
some_fraction [] = refl
some_fraction (d ∷ ds) = refl

-- the answer for the digits of such a text
value_back : (b : Bool) (n m l : ℕ) → l ≤ 167 → m * 10 ^ (167 - l) ≡ n → significant_digits n ≤ 38 → (0 < n → IsTrue (is_in_range n)) → valued b m 0 (l + 0) ≡ Ok (signed b n)
value_back b n m l short e few inside =
    ⊎_elim
    (λ (z : m ≡ 0).
    let none : n ≡ 0 = sym e ∙ ap (λ (x : ℕ). x * 10 ^ (167 - l)) z ∙ omega arith in
    valued-zero b m 0 (l + 0) z ∙ ap Ok (sym (ap (signed b) none ∙ signed-zero b)))
    (λ (ne : m ≢ 0).
    let some : 0 < m = omega arith in
    let same : significant_digits n ≡ significant_digits m = ap significant_digits (sym e) ∙ significant-zeros m (167 - l) some in
    let here : 0 < n = omega (arith, mul_ten_pow_pos m (167 - l) some) in
    let all : 167 - l + l ≡ 167 = omega arith in
    let quotient : m * 10 ^ (167 + 0) / 10 ^ (l + 0) ≡ n =
    ap (λ (j : ℕ). m * 10 ^ (167 + 0) / 10 ^ j) (add-zero l) ∙ ap (λ (x : ℕ). x / 10 ^ l) (ap (λ (j : ℕ). m * 10 ^ j) (sym all) ∙ sym (ten_pow_join m (167 - l) l)) ∙ mul-div_cancel (m * 10 ^ (167 - l)) (ten_pow_pos l) ∙ e in
    valued-in b m 0 (l + 0) n (omega arith) some quotient (inside here))
    (cases_eq m 0)

text_back : (b : Bool) (s : Sign) (n q : ℕ) (t sign text : List ℕ) → AllDigits 10 t → length t ≤ 167 → digits_value_after 10 q t * 10 ^ (167 - length t) ≡ n
    → significant_digits n ≤ 38 → (0 < n → IsTrue (is_in_range n)) → text ≡ whole_text q ++ point_text t → sign ≡ sign_text s → is_minus s ≡ b → Denotes (sign ++ text) (signed b n)
text_back b s n q t sign text a short e few inside is front minus =
    let w : IsWhole q (whole_text q) = whole_is q in
    let numeral : Numeral = record { sign = s; whole = whole_text q; fraction = some_text t; exponent = None } in
    let behind : decimals numeral ≡ t = some_decimals t in
    let m : digits_value 10 (whole_text q ++ decimals numeral) ≡ digits_value_after 10 q t =
    digits_value_after-append 0 (whole_text q) (decimals numeral) ∙ ap (λ (x : ℕ). digits_value_after 10 x (decimals numeral)) w.value ∙ ap (digits_value_after 10 q) behind in
    record {
      numeral = numeral;
      is_text = (
        record {
          whole = w.digits;
          fraction = subst (λ (xs : List ℕ). AllDigits 10 xs) (sym behind) a;
          some_digit = omega (arith, w.some);
          exponent_digits = tt;
          some_exponent_digit = tt;
        },
        ap (λ (xs : List ℕ). xs ++ text) front ∙ ap (λ (xs : List ℕ). sign_text s ++ xs) (is ∙ ap (λ (xs : List ℕ). whole_text q ++ xs) (sym (append-nil (fraction_text (some_text t)) ∙ some_fraction t))),
      );
      number = ap (λ (x : Bool). valued x (digits_value 10 (whole_text q ++ decimals numeral)) 0 (length (decimals numeral) + 0)) minus
          ∙ ap (λ (x : ℕ). valued b x 0 (length (decimals numeral) + 0)) m ∙ ap (λ (xs : List ℕ). valued b (digits_value_after 10 q t) 0 (length xs + 0)) behind
          ∙ value_back b n (digits_value_after 10 q t) (length t) short e few inside;
    }

pub read_back : (b : Bool) (n : ℕ) → significant_digits n ≤ 38 → (0 < n → IsTrue (is_in_range n)) → (b ≡ true → 0 < n) → Denotes (printed (signed b n)) (signed b n)
read_back false n few inside sign =
    let p : IsPointed 167 n (text_with 167 n) = pointed_is 167 n in
    subst (λ (text : List ℕ). Denotes text (signed false n)) (sym (printed-signed false n sign)) (text_back false Unsigned n p.whole p.behind [] (text_with 167 n) p.digits p.short p.value few inside p.is refl refl)
read_back true n few inside sign =
    let p : IsPointed 167 n (text_with 167 n) = pointed_is 167 n in
    subst (λ (text : List ℕ). Denotes text (signed true n)) (sym (printed-signed true n sign)) (text_back true Minus n p.whole p.behind (45 ∷ []) (text_with 167 n) p.digits p.short p.value few inside p.is refl refl)
