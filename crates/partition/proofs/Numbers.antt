-- Lists of numbers of indexes.
use Rattle.std.proofs.Common.{◌≡◌, ℕ, ◌∷◌, ◌++◌, nat_eq, not, ◌&&◌, ◌||◌, Bool, true, false, if◌then◌else◌, List, [], refl, sym, ap, ◌∙◌}
use Rattle.std.specs.List.{flat_map, list_any}
use Rattle.std.proofs.lemmas.Bool.{eq-eqb, eqb-true}
use Rattle.index_changes.specs.Commands.{is_in, without}
use Rattle.index_changes.proofs.Basics.{or_left, or_right}

-- a number is among those that are not among others where it is among those and not among the others
pub in_without : (others xs : List ℕ) (g : ℕ) → is_in (without others xs) g ≡ (is_in xs g && not (is_in others g))
in_without others [] g = refl
in_without others (x ∷ xs) g = by_test (not (is_in others x)) refl (nat_eq x g) refl (is_in xs g) (in_without others xs g)
  where
    none : (r : Bool) → false ≡ (r && false)
    none true = refl
    none false = refl

    by_test :
        (t : Bool) → not (is_in others x) ≡ t → (b : Bool) → nat_eq x g ≡ b → (r : Bool)
        → is_in (without others xs) g ≡ (r && not (is_in others g))
        → is_in (if t then x ∷ without others xs else without others xs) g ≡ ((b || r) && not (is_in others g))
    by_test true test true same r rest =
        let out : not (is_in others g) ≡ true = ap (λ y. not (is_in others y)) (sym (eqb-true x g same)) ∙ test in
        or_left (nat_eq x g) (is_in (without others xs) g) same ∙ sym out
    by_test true test false same r rest = ap (λ y. y || is_in (without others xs) g) same ∙ rest
    by_test false test true same r rest =
        let out : not (is_in others g) ≡ false = ap (λ y. not (is_in others y)) (sym (eqb-true x g same)) ∙ test in
        rest ∙ ap (λ y. r && y) out ∙ sym (none r) ∙ sym out
    by_test false test false same r rest = rest

-- of a list of which none passes a test no number does
pub none_passes : (p : ℕ → Bool) (xs : List ℕ) (g : ℕ) → list_any p xs ≡ false → is_in xs g ≡ true → p g ≡ false
none_passes p [] g none here = absurd (cc)
none_passes p (x ∷ xs) g none here = by_head (p x) refl (nat_eq x g) refl none here (λ n h. none_passes p xs g n h)
  where
    by_head :
        (a : Bool) → p x ≡ a → (b : Bool) → nat_eq x g ≡ b → (a || list_any p xs) ≡ false → (b || is_in xs g) ≡ true
        → (list_any p xs ≡ false → is_in xs g ≡ true → p g ≡ false) → p g ≡ false
    by_head true e b same none here rest = absurd (cc)
    by_head false e true same none here rest = ap p (sym (eqb-true x g same)) ∙ e
    by_head false e false same none here rest = rest none here

module _ {Y : Type 0} (F G : ℕ → List Y) where
  -- what is the same at each number of a list
  pub same_at_each : (xs : List ℕ) → ((g : ℕ) → is_in xs g ≡ true → F g ≡ G g) → flat_map F xs ≡ flat_map G xs
  same_at_each [] h = refl
  same_at_each (x ∷ xs) h =
      λ j. h x (or_left (nat_eq x x) (is_in xs x) (eq-eqb x x refl)) j ++ same_at_each xs (λ g e. h g (or_right (nat_eq x g) (is_in xs g) e)) j

module _ {Y : Type 0} (F : ℕ → List Y) where
  pub nothing_at_all : (xs : List ℕ) → ((g : ℕ) → is_in xs g ≡ true → F g ≡ []) → flat_map F xs ≡ []
  nothing_at_all [] h = refl
  nothing_at_all (x ∷ xs) h =
      λ j. h x (or_left (nat_eq x x) (is_in xs x) (eq-eqb x x refl)) j ++ nothing_at_all xs (λ g e. h g (or_right (nat_eq x g) (is_in xs g) e)) j
