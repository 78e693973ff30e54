-- Each element of a list with all writes is one that stays, or was written past the end.
use Rattle.std.proofs.Common.{◌≡◌, ℕ, zero, suc, ◌+◌, ◌<◌, ◌≤◌, List, [], ◌∷◌, slice_get, nat_lt, Option, Some, None, Bool}
use Rattle.std.proofs.Common.{true, false, cond, ◌⊎◌, refl, sym, ap, ◌∙◌, subst, arith}
use Rattle.std.proofs.Math.Logic.{inl, inr}
use Rattle.std.proofs.lemmas.Bool.Decides.{nat_tests}
use Rattle.std.specs.List.{AllByRecursion, count_by}
use Rattle.base_types.specs.declared.path.Step.TheVariants.{Name, Index}
use Rattle.attr_value.specs.Paths.{element_at, kept_element}
use Rattle.attr_value.specs.Sizes.{count}
use Rattle.attr_value.specs.Tree.{Tree, Trees, no_trees, tree}
use Rattle.path_entries.specs.Entries.{below, is_place}
use Rattle.item_writes.specs.Apart.{AreApart, paths_of}
use Rattle.item_writes.specs.Edits.{appended, element, elements_from}
use Rattle.item_writes.specs.NewTree.{Written}
use Rattle.item_writes.specs.ListsByPlace.{takes_out, Stays, StaysAt, IsAppended, HasNothingElse}
use Rattle.item_writes.proofs.Counts.{stays_here, kept_of, kept_is, counted, taken_once}
use Rattle.item_writes.proofs.Places.{behind_first, one_stays}

none_stays : (b : Bool) → b ≡ false → ◌≡◌ {A = ℕ} (cond b 1 0) 0
none_stays true e = cc
none_stays false e = refl

gone_first : (t : Tree) (here : List Written) (rest : Trees) → stays_here here ≡ false → kept_element (element t here) rest ≡ rest
gone_first t [] rest e = cc
gone_first t (([], None) ∷ ws) rest e = refl
gone_first t (([], Some v) ∷ ws) rest e = cc
gone_first t ((s ∷ p, v) ∷ ws) rest e = cc

-- of the elements from a place on, one stays that has so many before it
abbrev StaysFrom : Trees → ℕ → List Written → ℕ → Type 0
StaysFrom ts start ws spot = (place : ℕ) × (place < count ts)
    × ((at : ℕ) → at ≡ start + place → stays_here (below (is_place at) ws) ≡ true) × (kept_of place start ws ≡ spot)

abbrev IsOneOf : Trees → ℕ → ℕ → List Written → ℕ → Tree → Type 0
IsOneOf ts start end ws spot u = StaysFrom ts start ws spot ⊎ ((j : ℕ) × (element_at j (appended end ws) ≡ Some u))

-- behind a first element, which is one of those that stay or not
one_behind : (t : Tree) (rest : Trees) (start end : ℕ) (ws : List Written) (n m : ℕ) (u : Tree)
    → m ≡ cond (stays_here (below (is_place start) ws)) 1 0 + n → IsOneOf rest (suc start) end ws n u
    → IsOneOf (tree t rest) start end ws m u
one_behind t rest start end ws n m u e (inl one) =
    inl (suc one.0, omega (arith, one.1), λ at f. one.2 at (omega (arith, f)), omega (arith, e, one.3))
one_behind t rest start end ws n m u e (inr one) = inr one

one_of : (ts : Trees) (start end : ℕ) (ws : List Written) (spot : ℕ) (u : Tree) → end ≡ start + count ts
    → element_at spot (elements_from ts start ws) ≡ Some u → IsOneOf ts start end ws spot u
one_of no_trees start end ws spot u e there =
    let last : start ≡ end = omega (arith, e) in
    inr (spot, subst (λ n. element_at spot (appended n ws) ≡ Some u) last there)
one_of (tree t rest) start end ws spot u e there =
    split (stays_here (below (is_place start) ws)) refl spot there (λ n. one_of rest (suc start) end ws n u (omega (arith, e)))
  where
    here : stays_here (below (is_place start) ws) ≡ true → StaysFrom (tree t rest) start ws 0
    here f = (
      0,
      omega arith,
      λ at g. let same : start ≡ at = omega (arith, g) in subst (λ n. stays_here (below (is_place n) ws) ≡ true) same f,
      refl,
    )

    split : (b : Bool) → stays_here (below (is_place start) ws) ≡ b → (n : ℕ)
        → element_at n (kept_element (element t (below (is_place start) ws)) (elements_from rest (suc start) ws)) ≡ Some u
        → ((m : ℕ) → element_at m (elements_from rest (suc start) ws) ≡ Some u → IsOneOf rest (suc start) end ws m u)
        → IsOneOf (tree t rest) start end ws n u
    split true f zero g later = inl (here f)
    split true f (suc n) g later =
        let more : suc n ≡ cond (stays_here (below (is_place start) ws)) 1 0 + n = omega (arith, one_stays _ f) in
        let next = behind_first t (below (is_place start) ws) (elements_from rest (suc start) ws) n (suc n) more in
        one_behind t rest start end ws n (suc n) u more (later n (sym next ∙ g))
    split false f n g later =
        let same : n ≡ cond (stays_here (below (is_place start) ws)) 1 0 + n = omega (arith, none_stays _ f) in
        let next = gone_first t (below (is_place start) ws) (elements_from rest (suc start) ws) f in
        one_behind t rest start end ws n n u same (later n (ap (element_at n) (sym next) ∙ g))

-- ---- what is put past the end was written there

abbrev WrittenFrom : ℕ → List Written → Tree → Type 0
WrittenFrom end ws u = (place : ℕ) × (k : ℕ) × (end ≤ place) × (slice_get ws k ≡ Some (Index place ∷ [], Some u))

one_more : (end : ℕ) (w : Written) (ws : List Written) (u : Tree) → WrittenFrom end ws u → WrittenFrom end (w ∷ ws) u
one_more end w ws u x = (x.0, suc x.1, x.2, x.3)

at_least : (i end : ℕ) → nat_lt i end ≡ false → end ≤ i
at_least i end e = grind (arith, nat_tests)

written_from : (end : ℕ) (ws : List Written) (j : ℕ) (u : Tree) → element_at j (appended end ws) ≡ Some u → WrittenFrom end ws u
written_from end [] j u e = cc
written_from end (([], v) ∷ ws) j u e = one_more end ([], v) ws u (written_from end ws j u e)
written_from end ((Name name ∷ p, v) ∷ ws) j u e = one_more end (Name name ∷ p, v) ws u (written_from end ws j u e)
written_from end ((Index i ∷ [], None) ∷ ws) j u e = one_more end (Index i ∷ [], None) ws u (written_from end ws j u e)
written_from end ((Index i ∷ next ∷ p, v) ∷ ws) j u e = one_more end (Index i ∷ next ∷ p, v) ws u (written_from end ws j u e)
written_from end ((Index i ∷ [], Some v) ∷ ws) j u e = split (nat_lt i end) refl j e (λ n. written_from end ws n u)
  where
    split : (b : Bool) → nat_lt i end ≡ b → (n : ℕ) → element_at n (cond b (appended end ws) (tree v (appended end ws))) ≡ Some u
        → ((m : ℕ) → element_at m (appended end ws) ≡ Some u → WrittenFrom end ws u)
        → WrittenFrom end ((Index i ∷ [], Some v) ∷ ws) u
    split true f n g later = one_more end (Index i ∷ [], Some v) ws u (later n g)
    split false f zero g later = (i, 0, at_least i end f, ap (λ (o : Option Tree). Some (Index i ∷ [], o)) g)
    split false f (suc n) g later = one_more end (Index i ∷ [], Some v) ws u (later n g)

-- ---- the element at a place where the first write does not take it out is taken out by none

none_passes : (test : Written → Bool) (ws : List Written) → count_by test ws ≡ 0 → AllByRecursion (λ w. test w ≡ false) ws
none_passes test [] e = tt
none_passes test (w ∷ ws) e =
    (none_so (test w) (omega (arith, counted test w ws, e)), none_passes test ws (omega (arith, counted test w ws, e)))
  where
    none_so : (b : Bool) → ◌≡◌ {A = ℕ} (cond b 1 0) 0 → b ≡ false
    none_so true f = let h : ◌≡◌ {A = ℕ} 1 0 = f in absurd (omega (arith, h))
    none_so false f = refl

stays_so : (place : ℕ) (ws : List Written) → AreApart (paths_of ws) → stays_here (below (is_place place) ws) ≡ true
    → Stays place ws
stays_so place ws apart e = none_passes (takes_out place) ws (taken_once place ws apart ∙ ap (λ b. cond b 0 1) e)

pub nothing_else : (ts : Trees) (ws : List Written) → AreApart (paths_of ws) → HasNothingElse ts ws
nothing_else ts ws apart spot u there = known (one_of ts 0 (count ts) ws spot u (omega arith) there)
  where
    known : IsOneOf ts 0 (count ts) ws spot u → StaysAt ts ws spot ⊎ IsAppended ts ws u
    known (inl one) =
        inl (one.0, one.1, stays_so one.0 ws apart (one.2 one.0 (omega arith)), sym (kept_is ws one.0 apart) ∙ one.3)
    known (inr one) = let at = written_from (count ts) ws one.0 u one.1 in inr (at.0, at.1, at.2, at.3)
