-- `Any` one element at a time, and against a test of each element.
use Rattle.std.proofs.Common.{Bool, true, false, ◌||◌, zero, suc, List, [], ◌∷◌, ◌++◌, arith, refl, sym, subst, inl, inr, map}
use Rattle.std.specs.Prelude.{Any, ◌↔◌, ◌⊎◌, IsTrue}
use Rattle.std.specs.List.{list_any}

module _ {X : Type 0} (P : X → Type 0) where
  pub any_here : (x : X) (xs : List X) → P x → Any P (x ∷ xs)
  any_here x xs holds = (0, x, omega arith, refl, holds)

  pub any_behind : (x : X) (xs : List X) → Any P xs → Any P (x ∷ xs)
  any_behind x xs (k, y, within, is, holds) = (suc k, y, omega arith, is, holds)

  pub any_from : (x : X) (xs : List X) → Any P (x ∷ xs) → P x ⊎ Any P xs
  any_from x xs (zero, y, within, is, holds) = inl (subst P (sym is) holds)
  any_from x xs (suc k, y, within, is, holds) = inr (k, y, omega arith, is, holds)

  pub none : ¬ (Any P [])
  none (k, y, within, is, holds) = absurd (omega arith)

  pub any_left : (xs ys : List X) → Any P xs → Any P (xs ++ ys)
  any_left [] ys any = absurd (none any)
  any_left (x ∷ xs) ys any =
      elim (any_from x xs any)
      [ inl here ↦ any_here x (xs ++ ys) here | inr behind ↦ any_behind x (xs ++ ys) (any_left xs ys behind) ]

  pub any_right : (xs ys : List X) → Any P ys → Any P (xs ++ ys)
  any_right [] ys any = any
  any_right (x ∷ xs) ys any = any_behind x (xs ++ ys) (any_right xs ys any)

  pub any_either : (xs ys : List X) → Any P (xs ++ ys) → Any P xs ⊎ Any P ys
  any_either [] ys any = inr any
  any_either (x ∷ xs) ys any =
      elim (any_from x (xs ++ ys) any) [
        | inl here ↦ inl (any_here x xs here)
        | inr behind ↦ elim (any_either xs ys behind) [ inl left ↦ inl (any_behind x xs left) | inr right ↦ inr right ]
      ]

-- one of two tests
pub either_tested : {P Q : Type 0} (a b : Bool) → IsTrue a ↔ P → IsTrue b ↔ Q → IsTrue (a || b) ↔ (P ⊎ Q)
either_tested true b first second = (λ passes. inl (first.0 refl), λ holds. refl)
either_tested false b first second = (
  λ passes. inr (second.0 passes),
  λ holds. elim holds [ inl here ↦ absurd (let e = first.1 here in cc) | inr there ↦ second.1 there ],
)

module _ {X : Type 0} (p : X → Bool) (P : X → Type 0) (tests : (x : X) → IsTrue (p x) ↔ P x) where
  pub any_tested : (xs : List X) → IsTrue (list_any p xs) ↔ Any P xs
  any_tested [] = (λ passes. absurd (cc), λ any. absurd (none P any))
  any_tested (x ∷ xs) =
      let one = either_tested (p x) (list_any p xs) (tests x) (any_tested xs) in (
        λ passes. elim (one.0 passes) [ inl here ↦ any_here P x xs here | inr behind ↦ any_behind P x xs behind ],
        λ any. one.1 (any_from P x xs any),
      )

  -- the same of what the elements are mapped to
  pub mapped_tested : {Y : Type 0} (f : Y → X) (ys : List Y) → IsTrue (list_any p (map f ys)) ↔ Any (λ y. P (f y)) ys
  mapped_tested f [] = (λ passes. absurd (cc), λ any. absurd (none (λ y. P (f y)) any))
  mapped_tested f (y ∷ ys) =
      let one = either_tested (p (f y)) (list_any p (map f ys)) (tests (f y)) (mapped_tested f ys) in (
        λ passes.
            elim (one.0 passes)
            [ inl here ↦ any_here (λ z. P (f z)) y ys here | inr behind ↦ any_behind (λ z. P (f z)) y ys behind ],
        λ any. one.1 (any_from (λ z. P (f z)) y ys any),
      )
