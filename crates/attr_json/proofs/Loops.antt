-- Loops that make a list, an element for each one of another list.
use Rattle.std.proofs.Common.{◌≡◌, ℕ, suc, ◌+◌, ◌<◌, List, [], ◌∷◌, ◌++◌, length, get_or, take, drop, map, sym, ap, ◌∙◌, add-one}
use Rattle.std.proofs.Math.Seq.{take-suc, drop-cons}
use Rattle.std.proofs.lemmas.List.{map-append}

module _ {X Y Z : Type 0} (seen : Z → Y) (made : X → Y) where
  -- one more was made, of the element at this place
  pub one_more : (done : List Z) (z : Z) (xs : List X) (i : ℕ) (x : X) → i < length xs → x ≡ get_or xs i x → map seen done ≡ map made (take i xs) → seen z ≡ made x
      → map seen (done ++ z ∷ []) ≡ map made (take (i + 1) xs)
  one_more done z xs i x below here is one =
      map-append seen done (z ∷ []) ∙ ap (λ ys. ys ++ seen z ∷ []) is ∙ ap (λ y. map made (take i xs) ++ y ∷ []) (one ∙ ap made here)
      ∙ sym (map-append made (take i xs) (get_or xs i x ∷ [])) ∙ ap (map made) (sym (take-suc xs i x below)) ∙ ap (λ n. map made (take n xs)) (sym (add-one i))

-- the element at a place, before those behind it
pub drop_here : {X : Type 0} (xs : List X) (i : ℕ) (x : X) → i < length xs → x ≡ get_or xs i x → drop i xs ≡ x ∷ drop (i + 1) xs
drop_here xs i x below here =
    drop-cons xs i x below ∙ ap (λ y. y ∷ drop (suc i) xs) (sym here) ∙ ap (λ n. x ∷ drop n xs) (sym (add-one i))
