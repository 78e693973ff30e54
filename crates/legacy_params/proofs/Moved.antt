-- Items that are moved from one list behind another.
use Rattle.std.proofs.Common.{◌≡◌, List, [], ◌∷◌, ◌++◌, map, sym, ap, ◌∙◌, append_assoc, append-nil}

module _ {X Y : Type 0} (f : X → Y) where
  pub one_moved : (whole now more : List Y) (y : Y) (x : X) (left rest : List X) → left ≡ x ∷ rest → more ≡ now ++ y ∷ [] → y ≡ f x
      → now ++ map f left ≡ whole → more ++ map f rest ≡ whole
  one_moved whole now more y x left rest is put made was =
      ap (λ ys. ys ++ map f rest) put ∙ append_assoc now (y ∷ []) (map f rest) ∙ ap (λ z. now ++ z ∷ map f rest) made
      ∙ ap (λ xs. now ++ map f xs) (sym is) ∙ was

  pub all_moved : (whole now : List Y) (left : List X) → left ≡ [] → now ++ map f left ≡ whole → now ≡ whole
  all_moved whole now left none was = sym (append-nil now) ∙ ap (λ xs. now ++ map f xs) (sym none) ∙ was

module _ {X : Type 0} where
  pub one_put : (whole now more : List X) (x : X) (left rest : List X) → left ≡ x ∷ rest → more ≡ now ++ x ∷ [] → now ++ left ≡ whole → more ++ rest ≡ whole
  one_put whole now more x left rest is put was = ap (λ xs. xs ++ rest) put ∙ append_assoc now (x ∷ []) rest ∙ ap (λ xs. now ++ xs) (sym is) ∙ was

  pub all_put : (whole now left : List X) → left ≡ [] → now ++ left ≡ whole → now ≡ whole
  all_put whole now left none was = sym (append-nil now) ∙ ap (λ xs. now ++ xs) (sym none) ∙ was
