-- Lists by their places, and sums over views.
use Rattle.std.proofs.Common.{◌≡◌, ◌⊎◌, ℕ, zero, suc, ◌+◌, ◌-◌, ◌*◌, ◌<◌, ◌≤◌, List, [], ◌∷◌, ◌++◌, length, set, Some, None, refl, sym, ap, ◌∙◌, inl, inr, ⊎_elim, arith}
use Rattle.std.specs.Prelude.{slice_get, slice_index, take, replicate}
use mathlib.Core.Option.{some, some-injective, some-ne-none}
use lib.ListN.{get_elem?}
use Rattle.turnstile.specs.Histories.{Has}
use Rattle.turnstile.specs.Kept.{total, upwards}

pub Some-injective : {A : Type 0} (a b : A) → Some a ≡ Some b → a ≡ b
Some-injective a b e = cc

pub Some-ne-None : {A : Type 0} (a : A) → Some a ≡ None → ⊥
Some-ne-None a e = cc

module _ {A : Type 0} where
  pub here_of_there : (l : List A) (i : ℕ) (a b : A) → get_elem? l i ≡ some a → get_elem? (set l i b) i ≡ some b
  here_of_there [] i a b e = absurd (some-ne-none a (sym e))
  here_of_there (x ∷ xs) zero a b e = refl
  here_of_there (x ∷ xs) (suc i) a b e = here_of_there xs i a b e

  pub below_of_there : (l : List A) (i : ℕ) (a : A) → get_elem? l i ≡ some a → i < length l
  below_of_there [] i a e = absurd (some-ne-none a (sym e))
  below_of_there (x ∷ xs) zero a e = omega arith
  below_of_there (x ∷ xs) (suc i) a e = let h : i < length xs = below_of_there xs i a e in omega arith

  pub one_there : (l : List A) (i : ℕ) (a b : A) → get_elem? l i ≡ some a → get_elem? l i ≡ some b → a ≡ b
  one_there l i a b e f = some-injective a b (sym e ∙ f)

  -- an element of a list with one more at its end
  pub at_push : (l : List A) (a b : A) (j : ℕ) → get_elem? (l ++ a ∷ []) j ≡ some b → (get_elem? l j ≡ some b) ⊎ ((j ≡ length l) × (a ≡ b))
  at_push [] a b zero e = inr (refl, some-injective a b e)
  at_push [] a b (suc j) e = absurd (some-ne-none b (sym e))
  at_push (x ∷ xs) a b zero e = inl e
  at_push (x ∷ xs) a b (suc j) e = ⊎_elim (λ h. inl h) (λ h. inr (ap suc h.0, h.1)) (at_push xs a b j e)

  pub Has-append : (xs ys : List A) (a : A) → Has (xs ++ ys) a → Has xs a ⊎ Has ys a
  Has-append [] ys a h = inr h
  Has-append (x ∷ xs) ys a h = ⊎_elim (λ e. inl (inl e)) (λ r. ⊎_elim (λ m. inl (inr m)) (λ m. inr m) (Has-append xs ys a r)) h

  pub Has_front : (xs ys : List A) (a : A) → Has xs a → Has (xs ++ ys) a
  Has_front [] ys a h = absurd h
  Has_front (x ∷ xs) ys a h = ⊎_elim (λ e. inl e) (λ r. inr (Has_front xs ys a r)) h

  pub Has_back : (xs ys : List A) (a : A) → Has ys a → Has (xs ++ ys) a
  Has_back [] ys a h = h
  Has_back (x ∷ xs) ys a h = inr (Has_back xs ys a h)

  pub nil_or_has : (xs : List A) → (xs ≡ []) ⊎ ((a : A) × Has xs a)
  nil_or_has [] = inl refl
  nil_or_has (x ∷ xs) = inr (x, inl refl)

  pub total-append : (f : A → ℕ) (xs : List A) (y : A) → total f (xs ++ y ∷ []) ≡ total f xs + f y
  total-append f [] y = omega arith
  total-append f (x ∷ xs) y = let h : total f (xs ++ y ∷ []) ≡ total f xs + f y = total-append f xs y in omega arith

  pub total-set : (f : A → ℕ) (l : List A) (i : ℕ) (a b : A) → get_elem? l i ≡ some a → total f (set l i b) + f a ≡ total f l + f b
  total-set f [] i a b e = absurd (some-ne-none a (sym e))
  total-set f (x ∷ xs) zero a b e = let s : f x ≡ f a = ap f (some-injective x a e) in omega arith
  total-set f (x ∷ xs) (suc i) a b e = let h : total f (set xs i b) + f a ≡ total f xs + f b = total-set f xs i a b e in omega arith

  pub total_few : (f g : A → ℕ) (m : ℕ) (l : List A) → ((j : ℕ) (a : A) → get_elem? l j ≡ some a → f a ≤ g a * m) → total f l ≤ total g l * m
  total_few f g m [] h = omega arith
  total_few f g m (x ∷ xs) h = let a : f x ≤ g x * m = h 0 x refl in let b : total f xs ≤ total g xs * m = total_few f g m xs (λ j. h (suc j)) in omega arith

pub Has-upwards : (k m p : ℕ) → Has (upwards k m) p → (k ≤ p) × (p < k + m)
Has-upwards k zero p h = absurd h
Has-upwards k (suc m) p h = ⊎_elim (λ e. (omega arith, omega arith)) (λ r. let t = Has-upwards (suc k) m p r in (omega arith, omega arith)) h

pub upwards_has : (k m p : ℕ) → k ≤ p → p < k + m → Dec (k ≡ p) → Has (upwards k m) p
upwards_has k zero p low high d = absurd (omega arith)
upwards_has k (suc m) p low high (yes e) = inl e
upwards_has k (suc zero) p low high (no ne) = absurd (ne (omega arith))
upwards_has k (suc (suc m)) p low high (no ne) = inr (upwards_has (suc k) (suc m) p (omega arith) (omega arith) (native.Mathlib.Decide.ℕ_discrete (suc k) p))

pub length-upwards : (k m : ℕ) → length (upwards k m) ≡ m
length-upwards k zero = refl
length-upwards k (suc m) = ap suc (length-upwards (suc k) m)

-- the first of what is left, and the rest
pub upwards_step : (k n : ℕ) → k < n → upwards k (n - k) ≡ k ∷ upwards (k + 1) (n - (k + 1))
upwards_step k n h = let e : n - k ≡ suc (n - (k + 1)) = omega arith in let f : suc k ≡ k + 1 = omega arith in ap (upwards k) e ∙ (λ i. k ∷ upwards (f i) (n - (k + 1)))

module _ {A : Type 0} where
  pub get_here : (xs : List A) (i : ℕ) (x : A) → get_elem? xs i ≡ some x → slice_get xs i ≡ Some x
  get_here [] i x e = absurd (some-ne-none x (sym e))
  get_here (y ∷ ys) zero x e = ap Some (some-injective y x e)
  get_here (y ∷ ys) (suc i) x e = get_here ys i x e

  pub here_get : (xs : List A) (i : ℕ) (x : A) → slice_get xs i ≡ Some x → get_elem? xs i ≡ some x
  here_get [] i x e = absurd (Some-ne-None x (sym e))
  here_get (y ∷ ys) zero x e = ap some (Some-injective y x e)
  here_get (y ∷ ys) (suc i) x e = here_get ys i x e

  pub below_get : (xs : List A) (i : ℕ) (x : A) → slice_get xs i ≡ Some x → i < length xs
  below_get xs i x e = below_of_there xs i x (here_get xs i x e)

  pub get_below : (xs : List A) (i : ℕ) → i < length xs → (x : A) × (slice_get xs i ≡ Some x)
  get_below [] i h = absurd (omega arith)
  get_below (y ∷ ys) zero h = (y, refl)
  get_below (y ∷ ys) (suc i) h = get_below ys i (omega arith)

  -- an element of a list with one more at its end
  pub get_push : (xs : List A) (y x : A) (i : ℕ) → slice_get (xs ++ y ∷ []) i ≡ Some x → (slice_get xs i ≡ Some x) ⊎ ((i ≡ length xs) × (y ≡ x))
  get_push xs y x i e = ⊎_elim (λ h. inl (get_here xs i x h)) (λ h. inr h) (at_push xs y x i (here_get (xs ++ y ∷ []) i x e))

  pub get_front : (xs ys : List A) (i : ℕ) (x : A) → slice_get xs i ≡ Some x → slice_get (xs ++ ys) i ≡ Some x
  get_front [] ys i x e = absurd (Some-ne-None x (sym e))
  get_front (z ∷ zs) ys zero x e = e
  get_front (z ∷ zs) ys (suc i) x e = get_front zs ys i x e

  pub get_last : (xs : List A) (y : A) → slice_get (xs ++ y ∷ []) (length xs) ≡ Some y
  get_last [] y = refl
  get_last (x ∷ xs) y = get_last xs y

pub length-blank : (k m : ℕ) → k ≤ m → length (take k (replicate {A = ℕ} m 0)) ≡ k
length-blank zero m h = refl
length-blank (suc k) zero h = absurd (omega arith)
length-blank (suc k) (suc m) h = ap suc (length-blank k m (omega arith))

pub blank_take : (k m i : ℕ) → slice_index (take k (replicate m 0)) i ≡ 0
blank_take zero m i = refl
blank_take (suc k) zero i = refl
blank_take (suc k) (suc m) zero = refl
blank_take (suc k) (suc m) (suc i) = blank_take k m i
