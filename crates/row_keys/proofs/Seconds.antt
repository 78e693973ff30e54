-- Numbers against seconds.
use Rattle.std.specs.Ordering.{MatchOrdering, int_cmp, is_lt}
use Rattle.std.specs.declared.cmp.Ordering.{Ordering}
use Rattle.std.specs.declared.cmp.Ordering.TheVariants.{Less, Equal, Greater}
use Rattle.std.proofs.Common.{◌≡◌, ℕ, ◌+◌, ◌-◌, ◌*◌, ◌^◌, ◌≤◌, ◌<◌, ◌<ℤ◌, ℤ, pos, negsuc, Bool, true, false, ◌&&◌, refl, ap, ◌∙◌, arith}
use Rattle.std.proofs.lemmas.Bool.Decides.{nat_tests}
use Rattle.std.proofs.lemmas.Cmp.{int_ranked}
use Rattle.std.proofs.Math.Nat.{add-mul, mul-le-mul_right}
use Rattle.std.specs.Prelude.{nat_lt, nat_le}
use Rattle.row_keys.specs.Expiry.{of_seconds, longest, is_past, is_below, is_long_past}

less_if : (a b : ℕ) (r : Ordering) → MatchOrdering r (pos a <ℤ pos b) (pos a ≡ pos b) (pos b <ℤ pos a) → is_lt r ≡ nat_lt a b
less_if a b Less h = grind (arith, nat_tests)
less_if a b Equal h = grind (arith, nat_tests)
less_if a b Greater h = grind (arith, nat_tests)

below_if : (n b : ℕ) (r : Ordering) → MatchOrdering r (negsuc n <ℤ pos b) (negsuc n ≡ pos b) (pos b <ℤ negsuc n) → is_lt r ≡ true
below_if n b Less h = refl
below_if n b Equal h = absurd (cc)
below_if n b Greater h = absurd (omega arith)

-- a number that is less than a count of seconds is below it
pub below_is : (z : ℤ) (second : ℕ) → is_lt (int_cmp z (pos (second * 10 ^ 167))) ≡ is_below z second
unfolding of_seconds
below_is (pos n) second = less_if n (second * 10 ^ 167) (int_cmp (pos n) (pos (second * 10 ^ 167))) (int_ranked (pos n) (pos (second * 10 ^ 167)) _ refl)
below_is (negsuc n) second = below_if n (second * 10 ^ 167) (int_cmp (negsuc n) (pos (second * 10 ^ 167))) (int_ranked (negsuc n) (pos (second * 10 ^ 167)) _ refl)

pub grows : (a b : ℕ) → a ≤ b → of_seconds a ≤ of_seconds b
unfolding of_seconds
grows a b h = mul-le-mul_right (10 ^ 167) h

apart_by : (a b k : ℕ) → b ≤ a → a * k ≡ (a - b) * k + b * k
apart_by a b k h = ap (λ (x : ℕ). x * k) (omega arith) ∙ add-mul (a - b) b k

-- seconds, and those that are left of them
apart : (a b : ℕ) → b ≤ a → of_seconds a ≡ of_seconds (a - b) + of_seconds b
unfolding of_seconds
apart a b h = apart_by a b (10 ^ 167) h

-- ---- a number below a second, by so many at most

not_below : (n s l : ℕ) → nat_lt n s ≡ false → (nat_lt n s && nat_le s (n + l)) ≡ false
not_below n s l h = grind (arith, nat_tests)

too_far : (n s l : ℕ) → n + l < s → (nat_lt n s && nat_le s (n + l)) ≡ false
too_far n s l h = grind (arith, nat_tests)

near : (n s l : ℕ) → nat_lt n s ≡ true → s ≤ n + l → (nat_lt n s && nat_le s (n + l)) ≡ true
near n s l h g = grind (arith, nat_tests)

less : (a b : ℕ) → nat_lt a b ≡ true → a < b
less a b h = grind (arith, nat_tests)

at_least : (a b : ℕ) → nat_lt a b ≡ false → b ≤ a
at_least a b h = grind (arith, nat_tests)

most : (a b : ℕ) → nat_le a b ≡ true → a ≤ b
most a b h = grind (arith, nat_tests)

above : (a b : ℕ) → nat_le a b ≡ false → b ≤ a
above a b h = grind (arith, nat_tests)

no_less : (n : ℕ) → nat_lt n 0 ≡ true → ⊥
no_less n h = absurd (grind (arith, nat_tests))

-- ---- what is past

-- a number below 0 never is
pub negative_never : (z : ℤ) → is_below z 0 ≡ true → (later : ℕ) → is_past z later ≡ false
unfolding of_seconds
negative_never (pos n) h later = absurd (no_less n h)
negative_never (negsuc n) h later = refl

-- nor is one at a second that it is not below
pub not_yet : (z : ℤ) (second : ℕ) → is_below z second ≡ false → is_past z second ≡ false
not_yet (pos n) second h = not_below n (of_seconds second) (of_seconds longest) h
not_yet (negsuc n) second h = refl

long_past : (b c : Bool) → (b && c) ≡ true → (b ≡ true) × (c ≡ true)
long_past true true h = (refl, refl)
long_past true false h = absurd (cc)
long_past false c h = absurd (cc)

-- nor is one that is below the second by more than five years, at any later one
pub no_longer : (z : ℤ) (second : ℕ) → is_long_past z second ≡ true → (later : ℕ) → second ≤ later → is_past z later ≡ false
no_longer (negsuc n) second h later after = refl
no_longer (pos n) second h later after =
    let both = long_past (nat_le longest second) (nat_lt n (of_seconds (second - longest))) h in
    let far : n < of_seconds (second - longest) = less n (of_seconds (second - longest)) both.1 in
    let whole : of_seconds second ≡ of_seconds (second - longest) + of_seconds longest = apart second longest (most longest second both.0) in
    let later_is : of_seconds second ≤ of_seconds later = grows second later after in
    too_far n (of_seconds later) (of_seconds longest) (grind (arith))

within_years : (n second : ℕ) (b : Bool) → nat_le longest second ≡ b → (b && nat_lt n (of_seconds (second - longest))) ≡ false
    → of_seconds second ≤ n + of_seconds longest
within_years n second true h far =
    let whole : of_seconds second ≡ of_seconds (second - longest) + of_seconds longest = apart second longest (most longest second h) in
    let near : of_seconds (second - longest) ≤ n = at_least n (of_seconds (second - longest)) far in
    grind (arith)
within_years n second false h far =
    let fewer : of_seconds second ≤ of_seconds longest = grows second longest (above longest second h) in
    grind (arith)

-- any other number that is below the second is
pub past_now : (z : ℤ) (second : ℕ) → is_below z 0 ≡ false → is_below z second ≡ true → is_long_past z second ≡ false → is_past z second ≡ true
past_now (negsuc n) second a b c = absurd (cc)
past_now (pos n) second a b c = near n (of_seconds second) (of_seconds longest) b (within_years n second (nat_le longest second) refl c)

-- ---- numbers in their order

lesser_if : (a b : ℕ) (r : Ordering) → MatchOrdering r (pos a <ℤ pos b) (pos a ≡ pos b) (pos b <ℤ pos a) → is_lt r ≡ true → a < b
lesser_if a b Less h is = grind (arith)
lesser_if a b Equal h is = absurd (cc)
lesser_if a b Greater h is = absurd (cc)

not_lesser_if : (a b : ℕ) (r : Ordering) → MatchOrdering r (pos a <ℤ pos b) (pos a ≡ pos b) (pos b <ℤ pos a) → is_lt r ≡ false → b ≤ a
not_lesser_if a b Less h is = absurd (cc)
not_lesser_if a b Equal h is = grind (arith)
not_lesser_if a b Greater h is = grind (arith)

across_if : (a b : ℕ) (r : Ordering) → MatchOrdering r (pos a <ℤ negsuc b) (pos a ≡ negsuc b) (negsuc b <ℤ pos a) → is_lt r ≡ true → ⊥
across_if a b Less h is = absurd (omega arith)
across_if a b Equal h is = absurd (cc)
across_if a b Greater h is = absurd (cc)

far_above : (a b s : ℕ) → a < b → nat_lt a s ≡ false → nat_lt b s ≡ false
far_above a b s h g = grind (arith, nat_tests)

above_still : (a b s : ℕ) → b ≤ a → nat_lt b s ≡ false → nat_lt a s ≡ false
above_still a b s h g = grind (arith, nat_tests)

-- a second that the lesser number is not below, the greater is not
pub greater_not_below : (a b : ℤ) (second : ℕ) → is_lt (int_cmp a b) ≡ true → is_below a second ≡ false → is_below b second ≡ false
greater_not_below (negsuc a) b second h g = absurd (cc)
greater_not_below (pos a) (negsuc b) second h g = absurd (across_if a b (int_cmp (pos a) (negsuc b)) (int_ranked (pos a) (negsuc b) _ refl) h)
greater_not_below (pos a) (pos b) second h g =
    far_above a b (of_seconds second) (lesser_if a b (int_cmp (pos a) (pos b)) (int_ranked (pos a) (pos b) _ refl) h) g

pub not_lesser_not_below : (a b : ℤ) (second : ℕ) → is_lt (int_cmp a b) ≡ false → is_below b second ≡ false → is_below a second ≡ false
not_lesser_not_below a (negsuc b) second h g = absurd (cc)
not_lesser_not_below (negsuc a) (pos b) second h g =
    let less : is_lt (int_cmp (negsuc a) (pos b)) ≡ true = below_if a b (int_cmp (negsuc a) (pos b)) (int_ranked (negsuc a) (pos b) _ refl) in
    absurd (cc)
not_lesser_not_below (pos a) (pos b) second h g =
    above_still a b (of_seconds second) (not_lesser_if a b (int_cmp (pos a) (pos b)) (int_ranked (pos a) (pos b) _ refl) h) g
