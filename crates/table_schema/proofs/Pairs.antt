use Rattle.std.proofs.Common.{◌≡◌, ◌≢◌, zero, suc, List, ◌∷◌, get_or, arith, sym, subst}
use Rattle.std.specs.Prelude.{All, Any, AllPairs, ◌↔◌}
use Rattle.std.proofs.lemmas.List.{get_or_default}

-- `AllPairs` one element at a time
module _ {X : Type 0} (R : X → X → Type 0) (x : X) (xs : List X) where
  pub pairs_cons : All (R x) xs → AllPairs R xs → AllPairs R (x ∷ xs)
  pairs_cons here behind zero zero d less within = absurd (omega arith)
  pairs_cons here behind zero (suc j) d less within = here j d (omega arith)
  pairs_cons here behind (suc i) zero d less within = absurd (omega arith)
  pairs_cons here behind (suc i) (suc j) d less within = behind i j d (omega arith) (omega arith)

  pub pairs_head : AllPairs R (x ∷ xs) → All (R x) xs
  pairs_head pairs k d within = pairs zero (suc k) d (omega arith) (omega arith)

  pub pairs_tail : AllPairs R (x ∷ xs) → AllPairs R xs
  pairs_tail pairs i j d less within = pairs (suc i) (suc j) d (omega arith) (omega arith)

-- a search for two elements with one name, the first element looked for behind itself
module _ {X N : Type 0} (name : X → N) (x : X) (xs all : List X) (Distinct : Type 0) where
  pub goes_on : all ≡ x ∷ xs → ¬ (Any (λ y. name y ≡ name x) xs) → AllPairs (λ a b. name a ≢ name b) all ↔ Distinct → AllPairs (λ a b. name a ≢ name b) xs ↔ Distinct
  goes_on is new both =
      let first = subst (λ l. AllPairs (λ a b. name a ≢ name b) l ↔ Distinct) is both in (
        λ pairs. first.0 (pairs_cons (λ a b. name a ≢ name b) x xs (λ k d within same. new (k, get_or xs k d, within, get_or_default xs k (get_or xs k d) d within, sym same)) pairs),
        λ distinct. pairs_tail (λ a b. name a ≢ name b) x xs (first.1 distinct),
      )

  pub found : all ≡ x ∷ xs → Any (λ y. name y ≡ name x) xs → AllPairs (λ a b. name a ≢ name b) all ↔ Distinct → Distinct → ⊥
  found is any both distinct =
      let first = subst (λ l. AllPairs (λ a b. name a ≢ name b) l ↔ Distinct) is both in
      let (k, y, within, at, same) = any in
      pairs_head (λ a b. name a ≢ name b) x xs (first.1 distinct) k y within (sym (subst (λ z. name z ≡ name x) (sym at) same))
