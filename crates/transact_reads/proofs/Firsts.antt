-- The first refusal along a list.
use Rattle.std.proofs.Common.{◌≡◌, refl, sym, ap, ◌∙◌, List, [], ◌∷◌, map, Option, None, Some}
use Rattle.table_model.specs.declared.refusal.Refusal.{Refusal}
use Rattle.table_model.specs.Database.{first}

first_alone : (o : Option Refusal) → first (o ∷ []) ≡ o
first_alone None = refl
first_alone (Some r) = refl

module _ {X : Type 0} (refuses : X → Option Refusal) where
  -- an element is refused
  pub refused_here : (x : X) (rest others : List X) (refusal : Refusal) (whole : Option Refusal) → rest ≡ x ∷ others → refuses x ≡ Some refusal
      → first (map refuses rest) ≡ whole → Some refusal ≡ whole
  refused_here x rest others refusal whole is refused so_far =
      ap (λ (o : Option Refusal). first (o ∷ map refuses others)) (sym refused) ∙ ap (λ (xs : List X). first (map refuses xs)) (sym is) ∙ so_far

  -- an element is not refused
  pub goes_on : (x : X) (rest others : List X) (whole : Option Refusal) → rest ≡ x ∷ others → refuses x ≡ None
      → first (map refuses rest) ≡ whole → first (map refuses others) ≡ whole
  goes_on x rest others whole is passes so_far =
      ap (λ (o : Option Refusal). first (o ∷ map refuses others)) (sym passes) ∙ ap (λ (xs : List X). first (map refuses xs)) (sym is) ∙ so_far

  -- no element is left
  pub none_left : (rest : List X) (whole : Option Refusal) → rest ≡ [] → first (map refuses rest) ≡ whole → None ≡ whole
  none_left rest whole is so_far = ap (λ (xs : List X). first (map refuses xs)) (sym is) ∙ so_far

-- where no element is refused for one reason, the first that is refused for either is the first for the other
pub either_first : {X : Type 0} (m k : X → Option Refusal) (xs : List X) → first (map m xs) ≡ None
    → first (map (λ x. first (m x ∷ k x ∷ [])) xs) ≡ first (map k xs)
either_first m k [] h = refl
either_first {X = X} m k (x ∷ xs) h = go (m x) refl (either_first m k xs)
  where
    either : (o : Option Refusal) (p q : List (Option Refusal)) → first p ≡ first q → first (first (o ∷ []) ∷ p) ≡ first (o ∷ q)
    either None p q e = e
    either (Some r) p q e = refl

    go : (o : Option Refusal) → m x ≡ o → (first (map m xs) ≡ None → first (map (λ y. first (m y ∷ k y ∷ [])) xs) ≡ first (map k xs))
        → first (first (m x ∷ k x ∷ []) ∷ map (λ y. first (m y ∷ k y ∷ [])) xs) ≡ first (k x ∷ map k xs)
    go None e rest =
        ap (λ (o : Option Refusal). first (first (o ∷ k x ∷ []) ∷ map (λ y. first (m y ∷ k y ∷ [])) xs)) e
        ∙ either (k x) (map (λ y. first (m y ∷ k y ∷ [])) xs) (map k xs)
        (rest (ap (λ (o : Option Refusal). first (o ∷ map m xs)) (sym e) ∙ h))
    go (Some r) e rest = absurd (let clash : Some r ≡ None = ap (λ (o : Option Refusal). first (o ∷ map m xs)) (sym e) ∙ h in cc)
