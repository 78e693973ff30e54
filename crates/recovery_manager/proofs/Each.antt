-- What holds of each of a list.
use Rattle.std.proofs.Common.{◌≡◌, inl, inr, ℕ, suc, ◌+◌, ◌<◌, Bool, true, ◌||◌, List, [], ◌∷◌, ◌++◌, length, map, refl, sym, ap, ◌∙◌, subst, arith, slice_index_or, take, drop, get_or}
use Rattle.std.specs.Prelude.{Contains}
use Rattle.std.specs.List.{AllByRecursion, list_any}
use Rattle.std.proofs.lemmas.Bool.{or_cases, or_right}
use Rattle.std.proofs.lemmas.List.{take-append-drop, take_more}
use Rattle.std.proofs.lemmas.List.Elements.{All-from_recursion, recursion_from_All}

module _ {X : Type 0} where
  pub each_first : (T : X → Type 0) (xs ys : List X) → AllByRecursion T (xs ++ ys) → AllByRecursion T xs
  each_first T [] ys h = tt
  each_first T (x ∷ xs) ys h = (h.0, each_first T xs ys h.1)

  pub each_last : (T : X → Type 0) (xs ys : List X) → AllByRecursion T (xs ++ ys) → AllByRecursion T ys
  each_last T [] ys h = h
  each_last T (x ∷ xs) ys h = each_last T xs ys h.1

  pub each_so : (T U : X → Type 0) → ((x : X) → T x → U x) → (xs : List X) → AllByRecursion T xs → AllByRecursion U xs
  each_so T U f [] h = tt
  each_so T U f (x ∷ xs) h = (f x h.0, each_so T U f xs h.1)

  pub each_both :
      (T U W : X → Type 0) → ((x : X) → T x → U x → W x) → (xs : List X) → AllByRecursion T xs → AllByRecursion U xs → AllByRecursion W xs
  each_both T U W f [] h k = tt
  each_both T U W f (x ∷ xs) h k = (f x h.0 k.0, each_both T U W f xs h.1 k.1)

  pub each_at : (T : X → Type 0) (xs : List X) (x : X) → Contains xs x → AllByRecursion T xs → T x
  each_at T xs x at h = subst T at.2 (All-from_recursion T xs h at.0 x at.1)

  -- of a list that has no other elements
  pub each_among : (T : X → Type 0) (xs ys : List X) → ((x : X) → Contains ys x → Contains xs x) → AllByRecursion T xs → AllByRecursion T ys
  each_among T xs ys among h =
      recursion_from_All T ys (λ k d lt.
      let y = slice_index_or ys k d in
      let at = among y (k, lt, within ys k y d lt) in
      subst T at.2 (All-from_recursion T xs h at.0 y at.1))
    where
      within : (zs : List X) (k : ℕ) (a b : X) → k < length zs → slice_index_or zs k a ≡ slice_index_or zs k b
      within [] k a b lt = absurd (omega arith)
      within (z ∷ zs) Rattle.std.specs.Prelude.zero a b lt = refl
      within (z ∷ zs) (suc k) a b lt = within zs k a b (omega arith)

  -- what one of them is so of is among them
  pub found : (f : X → Bool) (xs : List X) → list_any f xs ≡ true → (x : X) × Contains xs x × (f x ≡ true)
  found f [] h = absurd (cc)
  found f (x ∷ xs) h = elim (or_cases (f x) (list_any f xs) h) [
    | inl now ↦ (x, (0, omega arith, refl), now)
    | inr older ↦ (let r = found f xs older in (r.0, (suc r.1.0, (let lt = r.1.1 in omega arith), r.1.2), r.2))
  ]

  pub among : (f : X → Bool) (xs : List X) (x : X) → Contains xs x → f x ≡ true → list_any f xs ≡ true
  among f [] x at h = absurd (let lt = at.1 in omega arith)
  among f (y ∷ ys) x (Rattle.std.specs.Prelude.zero, lt, is) h = ap (λ b. b || list_any f ys) (ap f is ∙ h)
  among f (y ∷ ys) x (suc k, lt, is) h = or_right (f y) (list_any f ys) (among f ys x (k, omega arith, is) h)

  pub any_among : (f : X → Bool) (xs ys : List X) → ((x : X) → Contains xs x → Contains ys x) → list_any f xs ≡ true → list_any f ys ≡ true
  any_among f xs ys within h = let r = found f xs h in among f ys r.0 (within r.0 r.1) r.2

  -- where one is found, what is before it and what is behind
  pub splits : (f : X → Bool) (xs : List X) → list_any f xs ≡ true → (before : List X) × (x : X) × (behind : List X) × (before ++ x ∷ behind ≡ xs) × (f x ≡ true)
  splits f [] h = absurd (cc)
  splits f (x ∷ xs) h = elim (or_cases (f x) (list_any f xs) h) [
    | inl now ↦ ([], x, xs, refl, now)
    | inr older ↦ (let r = splits f xs older in (x ∷ r.0, r.1, r.2, ap (λ zs. x ∷ zs) r.3, r.4))
  ]

module _ {X Y : Type 0} where
  -- of what becomes of each
  pub each_of : (T : Y → Type 0) (f : X → Y) (xs : List X) → AllByRecursion (λ x. T (f x)) xs → AllByRecursion T (map f xs)
  each_of T f [] h = tt
  each_of T f (x ∷ xs) h = (h.0, each_of T f xs h.1)

  pub each_from : (T : Y → Type 0) (f : X → Y) (xs : List X) → AllByRecursion T (map f xs) → AllByRecursion (λ x. T (f x)) xs
  each_from T f [] h = tt
  each_from T f (x ∷ xs) h = (h.0, each_from T f xs h.1)

-- one more of a list, and what is left behind it
pub taken_rest : {X : Type 0} (xs : List X) (i : ℕ) (d : X) → i < length xs → xs ≡ (take i xs ++ get_or xs i d ∷ []) ++ drop (i + 1) xs
taken_rest xs i d lt = sym (take-append-drop (i + 1) xs) ∙ ap (λ zs. zs ++ drop (i + 1) xs) (take_more xs i d lt)
