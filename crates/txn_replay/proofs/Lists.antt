-- Lists that are gone over from the front, and lists of which one element is changed.
use Rattle.std.proofs.Common.{◌≡◌, ℕ, zero, suc, ◌+◌, ◌<◌, ◌≤◌, Bool, true, false, ◌&&◌, List, [], ◌∷◌, ◌++◌, length, drop, get_or, None, Some, sym, ap, ◌∙◌, subst, arith}
use Rattle.std.specs.Prelude.{slice_get, slice_index_or, slice_set}
use Rattle.std.specs.List.{list_all}
use Rattle.std.proofs.Math.Seq.{drop-cons}
use Rattle.std.proofs.lemmas.List.{drop_all}
use Rattle.std.proofs.lemmas.Option.{slice_get-get_or}

-- each of a list passes a test, as far as it was asked
module _ {X : Type 0} (T : X → Bool) (xs : List X) (i : ℕ) where
  step :
      (b : Bool) (x : X) → i < length xs → x ≡ get_or xs i x → T x ≡ b → list_all T xs ≡ list_all T (drop i xs)
      → list_all T xs ≡ (b && list_all T (drop (i + 1) xs))
  step b x lt is passes all =
      let q : suc i ≡ i + 1 = omega arith in
      all
      ∙ ap (λ l. list_all T l) (drop-cons xs i x lt ∙ ap (λ k. get_or xs i x ∷ drop k xs) q)
      ∙ ap (λ b. b && list_all T (drop (i + 1) xs)) (ap T (sym is) ∙ passes)

  pub all_more :
      (x : X) → i < length xs → x ≡ get_or xs i x → T x ≡ true → list_all T xs ≡ list_all T (drop i xs)
      → list_all T xs ≡ list_all T (drop (i + 1) xs)
  all_more x lt is passes all = step true x lt is passes all

  pub one_fails :
      (x : X) → i < length xs → x ≡ get_or xs i x → T x ≡ false → list_all T xs ≡ list_all T (drop i xs) → false ≡ list_all T xs
  one_fails x lt is fails all = sym (step false x lt is fails all)

  pub all_passed : length xs ≤ i → list_all T xs ≡ list_all T (drop i xs) → true ≡ list_all T xs
  all_passed ge all = sym (all ∙ ap (λ l. list_all T l) (drop_all i xs ge))

some_is : {X : Type 0} (x y : X) → Some x ≡ Some y → x ≡ y
some_is x y e = cc

none_some : {X : Type 0} (x : X) → None ≡ Some x → ⊥
none_some x e = absurd (cc)

-- what holds at each place of a list: at its end, with one more, and with one changed
module _ {X : Type 0} where
  pub one_more :
      (T : ℕ → X → Type 0) (xs : List X) (y : X) → ((k : ℕ) (x : X) → slice_get xs k ≡ Some x → T k x) → T (length xs) y → (k : ℕ) (x : X)
      → slice_get (xs ++ y ∷ []) k ≡ Some x → T k x
  one_more T [] y each last zero x at = subst (T zero) (some_is y x at) last
  one_more T [] y each last (suc k) x at = absurd (none_some x at)
  one_more T (z ∷ zs) y each last zero x at = each zero x at
  one_more T (z ∷ zs) y each last (suc k) x at = one_more (λ j. T (suc j)) zs y (λ j w there. each (suc j) w there) last k x at

  pub one_changed :
      (T : ℕ → X → Type 0) (xs : List X) (i : ℕ) (y : X)
      → ((k : ℕ) (x : X) → slice_get xs k ≡ Some x → (k ≡ i → ⊥) → T k x) → T i y → (k : ℕ) (x : X)
      → slice_get (slice_set xs i y) k ≡ Some x → T k x
  one_changed T [] i y others here k x at = absurd (none_some x at)
  one_changed T (z ∷ zs) zero y others here zero x at = subst (λ w. T zero w) (some_is y x at) here
  one_changed T (z ∷ zs) zero y others here (suc k) x at = others (suc k) x at (λ same. omega arith)
  one_changed T (z ∷ zs) (suc i) y others here zero x at = others zero x at (λ same. omega arith)
  one_changed T (z ∷ zs) (suc i) y others here (suc k) x at =
      one_changed (λ j. T (suc j)) zs i y (λ j w there apart. others (suc j) w there (λ same. apart (omega arith))) here k x at

  -- what stands at a place within
  pub lent : (xs : List X) (i : ℕ) (x : X) → i < length xs → x ≡ slice_index_or xs i x → slice_get xs i ≡ Some x
  lent xs i x below is = slice_get-get_or xs i x below ∙ ap Some (sym is)
