-- Loops that look for an element, in order of time.
use Rattle.std.proofs.Common.{◌≡◌, ◌⊎◌, inl, inr, ◌+◌, ◌-◌, ◌<◌, ◌≤◌, ℕ, zero, suc, Bool, true, false, not, ◌&&◌, List, ◌∷◌, length, take, get_or, reverse, sym, ap, ◌∙◌, subst, arith}
use Rattle.std.specs.Prelude.{All, Any}
use Rattle.std.specs.List.{list_any}
use Rattle.std.proofs.lemmas.Bool.{cases_lt}
use Rattle.std.proofs.lemmas.List.{get_or-reverse, get_or_default, length-reverse}
use Rattle.txn_core.specs.Protocol.{Protocol}
use Rattle.txn_core.specs.Replay.{are_apart}
use Rattle.txn_core.proofs.Basics.{true_false}
use Rattle.txn_core.proofs.Reversed.{newest, whole}

module _ {X : Type 0} (Q : X → Type 0) where
  any_cons : (x : X) (xs : List X) → (Any Q xs → ⊥) → (Q x → ⊥) → Any Q (x ∷ xs) → ⊥
  any_cons x xs none no' (zero, y, lt, is, q) = no' (subst Q (sym is) q)
  any_cons x xs none no' (suc k, y, lt, is, q) = none (k, y, omega arith, is, q)

  -- none of the first, and not the next one
  pub any_none_more : (xs : List X) (i : ℕ) (x : X) → i < length xs → x ≡ get_or xs i x → (Any Q (reverse (take i xs)) → ⊥) → (Q x → ⊥) → Any Q (reverse (take (i + 1) xs)) → ⊥
  any_none_more xs i x lt is none no' any = any_cons x (reverse (take i xs)) none no' (subst (λ l. Any Q l) (newest xs i x lt is) any)

  pub any_none_all : (xs : List X) (i : ℕ) → length xs ≤ i → i ≤ length xs → (Any Q (reverse (take i xs)) → ⊥) → Any Q (reverse xs) → ⊥
  any_none_all xs i ge le none = subst (λ l. Any Q (reverse l) → ⊥) (whole xs i ge le) none

  pub any_found : (xs : List X) (i : ℕ) (x : X) → i < length xs → x ≡ get_or xs i x → Q x → Any Q (reverse xs)
  any_found xs i x lt is q =
      let n : length (reverse xs) ≡ length xs = length-reverse xs in
      let lt' : length xs - 1 - i < length xs = omega arith in
      let back : length xs - 1 - (length xs - 1 - i) ≡ i = omega arith in
      (length xs - 1 - i, x, omega arith, get_or-reverse xs (length xs - 1 - i) x lt' ∙ ap (λ k. get_or xs k x) back ∙ sym is, q)

-- each of the first passes, and the next one
pub each_more : {X : Type 0} (T : X → Bool) (xs : List X) (i : ℕ) (x : X) → i < length xs → x ≡ get_or xs i x → T x ≡ true → ((k : ℕ) → k < i → (d : X) → T (get_or xs k d) ≡ true) → (k : ℕ) → k < i + 1 → (d : X) → T (get_or xs k d) ≡ true
each_more {X} T xs i x lt is passes each k less d = go (cases_lt k i)
  where
    go : (k < i) ⊎ (i ≤ k) → T (get_or xs k d) ≡ true
    go (inl l) = each k l d
    go (inr g) =
        let at : i ≡ k = omega arith in
        subst (λ j. T (get_or xs j d) ≡ true) at (ap T (get_or_default xs i d x lt ∙ sym is) ∙ passes)

-- one that doesn't pass
pub not_each : {X : Type 0} (T : X → Bool) (xs : List X) (i : ℕ) (x : X) → i < length xs → x ≡ get_or xs i x → T x ≡ false → All (λ y. T y ≡ true) xs → ⊥
not_each T xs i x lt is fails all = true_false (T (get_or xs i x)) (all i x lt) (ap T (sym is) ∙ fails)

module _ {K V A F C D : Type 0} (P : Protocol K V A F C D) (x : A) (xs all : List A) (k : K) (same_key : k ≡ P.key_of x) (is : all ≡ x ∷ xs) (outcome : Bool) (goes : are_apart P all ≡ outcome) where
  apart_here : are_apart P (x ∷ xs) ≡ not (list_any (λ y. P.same k (P.key_of y)) xs) && are_apart P xs
  apart_here = ap (λ z. not (list_any (λ y. P.same z (P.key_of y)) xs) && are_apart P xs) (sym same_key)

  pub apart_found : list_any (λ y. P.same k (P.key_of y)) xs ≡ true → false ≡ outcome
  apart_found h = ap (λ b. not b && are_apart P xs) (sym h) ∙ sym apart_here ∙ ap (are_apart P) (sym is) ∙ goes

  pub apart_goes_on : list_any (λ y. P.same k (P.key_of y)) xs ≡ false → are_apart P xs ≡ outcome
  apart_goes_on h = ap (λ b. not b && are_apart P xs) (sym h) ∙ sym apart_here ∙ ap (are_apart P) (sym is) ∙ goes
