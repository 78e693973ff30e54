-- Lists that are gone over from the front.
use Rattle.std.proofs.Common.{◌≡◌, ℕ, suc, ◌+◌, ◌<◌, ◌≤◌, Bool, true, ◌&&◌, List, ◌∷◌, length, drop, get_or, sym, ap, ◌∙◌, arith}
use Rattle.std.specs.List.{list_all}
use Rattle.std.proofs.Math.Seq.{drop-cons}
use Rattle.std.proofs.lemmas.List.{drop_all}

-- each of a list passes a test, as far as it was asked
module _ {X : Type 0} (T : X → Bool) (xs : List X) (i : ℕ) where
  pub all_more :
      (x : X) → i < length xs → x ≡ get_or xs i x → T x ≡ true → list_all T xs ≡ list_all T (drop i xs)
      → list_all T xs ≡ list_all T (drop (i + 1) xs)
  all_more x lt is passes all =
      let q : suc i ≡ i + 1 = omega arith in
      all
      ∙ ap (λ l. list_all T l) (drop-cons xs i x lt ∙ ap (λ k. get_or xs i x ∷ drop k xs) q)
      ∙ ap (λ b. b && list_all T (drop (i + 1) xs)) (ap T (sym is) ∙ passes)

  pub all_passed : length xs ≤ i → list_all T xs ≡ list_all T (drop i xs) → true ≡ list_all T xs
  all_passed ge all = sym (all ∙ ap (λ l. list_all T l) (drop_all i xs ge))
