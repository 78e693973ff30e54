-- One choice of fields for each number.
use Rattle.std.proofs.Common.{◌≡◌, ℕ, zero, suc, ◌*◌, ◌%◌, ◌^◌, ◌<◌, ◌≢◌, Bool, true, false, eqb, ℤ, pos, negsuc, neg_ℤ, ◌-ℤ◌, ◌≤ℤ◌, unsigned_abs, sym, refl, ap, ◌∙◌, arith, ⊎_elim}
use Rattle.std.proofs.lemmas.Int.{ints}
use Rattle.std.proofs.lemmas.Map.Lookups.{exact_signed}
use Rattle.std.specs.Ordering.{int_cmp, int_eq, is_eq}
use Rattle.std.specs.declared.cmp.Ordering.{Ordering}
use Rattle.std.specs.declared.cmp.Ordering.TheVariants.{Less, Equal, Greater}
use Rattle.std.proofs.lemmas.Bool.{cond-false, ne_eqb, cases_eq}
use Rattle.number38.specs.declared.number.Number.TheInside.{Inside}
use Rattle.number38.specs.Digits.{significand}
use Rattle.number38.specs.Number.{signed, is_negative, power_of, whole_of, IsCanonical, canonical, exponent_of}
use Rattle.std.proofs.Math.Nat.{zero-mul}
use Rattle.number38.specs.DigitLaws.{significand-mul, significand-zero, trailing_zeros-mul, mul_ten_pow_pos}

pub unsigned_abs-signed : (b : Bool) (n : ℕ) → unsigned_abs (signed b n) ≡ n
unsigned_abs-signed false n = refl
unsigned_abs-signed true zero = refl
unsigned_abs-signed true (suc n) = refl

pub is_negative-signed : (b : Bool) (n : ℕ) → 0 < n → is_negative (signed b n) ≡ b
is_negative-signed false n h = refl
is_negative-signed true zero h = absurd (omega arith)
is_negative-signed true (suc n) h = refl

power_of_back : (e : ℤ) → neg_ℤ (pos 167) ≤ℤ e → pos (power_of e) -ℤ pos 167 ≡ e
power_of_back (pos n) h = omega (arith, ints)
power_of_back (negsuc n) h = omega (arith, ints)

-- the fields at a coefficient that is not 0
canonical-pos : (b : Bool) (c : ℕ) (e : ℤ) → 0 < c → 0 < c % 10 → neg_ℤ (pos 167) ≤ℤ e → canonical (signed b (c * 10 ^ power_of e)) ≡ (record { negative = b; coefficient = c; exponent = e })
canonical-pos b c e p h low =
    let n : ℕ = c * 10 ^ power_of e in
    let big : power_of e < n = mul_ten_pow_pos c (power_of e) p in
    let same : unsigned_abs (signed b n) ≡ n = unsigned_abs-signed b n in
    let sign : is_negative (signed b n) ≡ b = is_negative-signed b n (omega arith) in
    let digits : significand (unsigned_abs (signed b n)) ≡ c = ap significand same ∙ significand-mul c (power_of e) h in
    let scale : exponent_of (unsigned_abs (signed b n)) ≡ e =
    ap exponent_of same ∙ cond-false (eqb n 0) (pos 0) _ (ne_eqb n 0 (λ z. omega arith)) ∙ ap (λ k. pos k -ℤ pos 167) (trailing_zeros-mul c (power_of e) h) ∙ power_of_back e low in
    cc

fields : Bool → ℕ → ℤ → Inside
fields b c e = record { negative = b; coefficient = c; exponent = e }

canonical-pos_zero : canonical (pos 0) ≡ fields false 0 (pos 0)
unfolding fields
canonical-pos_zero = ap (λ (c : ℕ). fields false c (pos 0)) significand-zero

canonical-zero : (a : Inside) → IsCanonical a → a.coefficient ≡ 0 → canonical (whole_of a) ≡ a
unfolding fields
canonical-zero a h z =
    let sign : a.negative ≡ false = h.zero_sign z in
    let exponent : a.exponent ≡ pos 0 = h.zero_exponent z in
    let nothing : a.coefficient * 10 ^ power_of a.exponent ≡ 0 = ap (λ c. c * 10 ^ power_of a.exponent) z ∙ zero-mul (10 ^ power_of a.exponent) in
    let whole : whole_of a ≡ pos 0 = ap (λ b. signed b (a.coefficient * 10 ^ power_of a.exponent)) sign ∙ ap pos nothing in
    ap canonical whole ∙ canonical-pos_zero ∙ ap (λ (b : Bool). fields b 0 (pos 0)) (sym sign) ∙ ap (λ (c : ℕ). fields a.negative c (pos 0)) (sym z)
    ∙ ap (λ (e : ℤ). fields a.negative a.coefficient e) (sym exponent)

pub canonical-whole : (a : Inside) → IsCanonical a → canonical (whole_of a) ≡ a
canonical-whole a h =
    ⊎_elim (canonical-zero a h)
    (λ (ne : a.coefficient ≢ 0). let p : 0 < a.coefficient = omega arith in canonical-pos a.negative a.coefficient a.exponent p (h.stripped p) h.low)
    (cases_eq a.coefficient 0)

pub signed-zero : (b : Bool) → signed b 0 ≡ pos 0
signed-zero false = refl
signed-zero true = refl

-- what `==` answers is equality
equal_only : (o : Ordering) → is_eq o ≡ true → o ≡ Equal
equal_only Less h = cc
equal_only Equal h = cc
equal_only Greater h = cc

pub same_from_int_eq : (y z : ℤ) → int_eq y z ≡ true → y ≡ z
same_from_int_eq y z h = exact_signed y z (equal_only (int_cmp y z) h)
