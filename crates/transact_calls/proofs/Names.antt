-- The names of what is left of a request's parts.
use Rattle.std.proofs.Common.{◌≡◌, ℕ, ◌+◌, ◌<◌, ◌≤◌, List, [], ◌∷◌, length, drop, get_or, map, sym, ap, ◌∙◌}
use Rattle.std.proofs.lemmas.List.{at_drop_more, at_drop_all}

module _ {X : Type 0} (f : X → List ℕ) (xs : List X) (i : ℕ) where
  pub next_name : (x : X) → i < length xs → x ≡ get_or xs i x → map f (drop i xs) ≡ f x ∷ map f (drop (i + 1) xs)
  next_name x below is = ap (map f) (at_drop_more (λ ys. ys) xs i x below ∙ ap (λ y. y ∷ drop (i + 1) xs) (sym is))

  pub no_name : length xs ≤ i → map f (drop i xs) ≡ []
  no_name over = at_drop_all (map f) xs i over
