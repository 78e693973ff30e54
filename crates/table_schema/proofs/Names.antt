use Rattle.std.proofs.Common.{List, get_or, sym, subst}
use Rattle.std.specs.Prelude.{All, Any}
use Rattle.std.proofs.lemmas.List.{get_or_default}

-- what holds of each name that an element has
module _ {X N : Type 0} (R : X → N → Type 0) (D : N → Type 0) (xs : List X) where
  pub at_any : All (λ x. (n : N) → R x n → D n) xs → (n : N) → Any (λ x. R x n) xs → D n
  at_any all n any =
      let (k, x, within, is, names) = any in
      all k x within n (subst (λ y. R y n) (sym is) names)

  pub from_any : ((n : N) → Any (λ x. R x n) xs → D n) → All (λ x. (n : N) → R x n → D n) xs
  from_any each k d within n names =
      each n (k, get_or xs k d, within, get_or_default xs k (get_or xs k d) d within, names)
