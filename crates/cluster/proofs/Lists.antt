-- What holds of each of a list, and of some of it.
use Rattle.std.proofs.Common.{◌≡◌, Bool, true, ◌||◌, List, [], ◌∷◌, ◌++◌, ap, ◌∙◌}
use Rattle.std.specs.List.{AllByRecursion, list_any}
use Rattle.std.proofs.lemmas.Bool.{or_right}
use Rattle.std.proofs.lemmas.List.Folds.{list_any-append}

module _ {X : Type 0} where
  pub each_append : (T : X → Type 0) (xs ys : List X) → AllByRecursion T xs → AllByRecursion T ys → AllByRecursion T (xs ++ ys)
  each_append T [] ys h k = k
  each_append T (x ∷ xs) ys h k = (h.0, each_append T xs ys h.1 k)

  pub any_front : (f : X → Bool) (xs ys : List X) → list_any f xs ≡ true → list_any f (xs ++ ys) ≡ true
  any_front f xs ys h = list_any-append f xs ys ∙ ap (λ b. b || list_any f ys) h

  pub any_back : (f : X → Bool) (xs ys : List X) → list_any f ys ≡ true → list_any f (xs ++ ys) ≡ true
  any_back f xs ys h = list_any-append f xs ys ∙ or_right (list_any f xs) (list_any f ys) h
