use Rattle.std.proofs.Common.{ℕ, ◌<◌, Bool, true, false, List, [], ◌∷◌, length, MatchBool, refl, arith, map, ap, sym, ◌∙◌, ◌++◌, ◌≡◌}
use Rattle.std.specs.Prelude.{All, ◌↔◌, IsTrue}
use Rattle.std.specs.List.{AllWithin, HoldsAt}
use Rattle.std.proofs.lemmas.List.Elements.{All-nil, All-cons, All-head, All-tail}

-- what `all` answered, as a fact on each element
pub iff_all : {X : Type 0} (P : X → Type 0) (r : Bool) (xs : List X) → MatchBool r (AllWithin P xs 0 (length xs)) ((k : ℕ) × (k < length xs) × HoldsAt (λ x. ¬ (P x)) xs k) → IsTrue r ↔ All P xs
iff_all P true xs each = (λ _ k d within. each k d (omega arith) within, λ _. refl)
iff_all P false [] some = (λ e. absurd (cc), λ all. absurd (omega arith))
iff_all P false (x ∷ xs) some = (λ e. absurd (cc), λ all. absurd (some.2 x (all some.0 x some.1)))

-- what holds of each mapped element
pub from_map : {X Y : Type 0} (P : X → Type 0) (f : Y → X) (ys : List Y) → All P (map f ys) → All (λ y. P (f y)) ys
from_map P f [] all = All-nil (λ y. P (f y))
from_map P f (y ∷ ys) all =
    All-cons (λ y. P (f y)) y ys (All-head P (f y) (map f ys) all) (from_map P f ys (All-tail P (f y) (map f ys) all))

-- what holds of each element of two lists
module _ {X : Type 0} (P : X → Type 0) where
  pub all_left : (xs ys : List X) → All P (xs ++ ys) → All P xs
  all_left [] ys all = All-nil P
  all_left (x ∷ xs) ys all =
      All-cons P x xs (All-head P x (xs ++ ys) all) (all_left xs ys (All-tail P x (xs ++ ys) all))

  pub all_right : (xs ys : List X) → All P (xs ++ ys) → All P ys
  all_right [] ys all = all
  all_right (x ∷ xs) ys all = all_right xs ys (All-tail P x (xs ++ ys) all)

map_push : {X Y : Type 0} (f : X → Y) (xs : List X) (x : X) (ys : List Y) → map f (xs ++ x ∷ []) ++ ys ≡ map f xs ++ (f x ∷ ys)
map_push f [] x ys = refl
map_push f (z ∷ xs) x ys = ap (λ zs. f z ∷ zs) (map_push f xs x ys)

-- one more element of a list that is mapped while another is taken apart
pub mapped_more : {X Y : Type 0} (f : X → Y) (made more : List X) (x : X) (y : Y) (rest others all : List Y) → rest ≡ y ∷ others → f x ≡ y → more ≡ made ++ x ∷ [] → map f made ++ rest ≡ all → map f more ++ others ≡ all
mapped_more f made more x y rest others all is same pushed before =
    ap (λ xs. map f xs ++ others) pushed ∙ map_push f made x others
    ∙ (λ i. map f made ++ same i ∷ others) ∙ ap (λ ys. map f made ++ ys) (sym is) ∙ before
