-- Paths in order: of those of which one begins the other, two are neighbours.
use Rattle.std.proofs.Common.{◌≡◌, ◌+◌, ◌-◌, ◌<◌, ◌≤◌, ◌⊎◌, inl, inr, ℕ, zero, suc, false, List, [], ◌∷◌, ◌++◌, length, get_or, Some, slice_get, Ordering, Less, Equal, Greater, refl, sym, ap, subst, ◌∙◌, arith, true≢false, append-nil, eq-zero-or-pos, Option}
use Rattle.std.specs.Cmp.{IsTotalOrder}
use Rattle.std.specs.Cmp.Lexicographic.{slice_cmp, bytes_decides}
use Rattle.std.specs.Ordering.{nat_cmp, is_gt, is_eq, ordering_reverse, ordering_then, MatchOrdering}
use Rattle.std.specs.Borrow.{Bor}
use Rattle.std.proofs.lemmas.Cmp.{nat_list_cmp_total, nat_cmp_total, tied_itself, ranked}
use Rattle.std.proofs.lemmas.Map.Text.{is_eq-slice_cmp}
use Rattle.std.proofs.lemmas.Option.{slice_get_within}
use Rattle.base_types.specs.declared.path.DocPath.{DocPath}
use Rattle.base_types.specs.declared.path.Step.{Step}
use Rattle.base_types.specs.declared.path.Step.TheVariants.{Name, Index}
use Rattle.base_types.specs.contracts.path.StepOrd.TheImpl.{ghosts}
use Rattle.expr_parse.specs.Overlaps.{Begins, Overlap, HaveOverlap, SomeNeighbours, pointees}

-- names before places, names in order of their bytes
abbrev pub step_cmp : Step → Step → Ordering
step_cmp (Name a) (Name b) = slice_cmp nat_cmp a b
step_cmp (Name a) (Index j) = Less
step_cmp (Index i) (Name b) = Greater
step_cmp (Index i) (Index j) = nat_cmp i j

same_order : (x y : Step) → ghosts.cmp x y ≡ step_cmp x y
same_order (Name a) (Name b) = refl
same_order (Name a) (Index j) = refl
same_order (Index i) (Name b) = refl
same_order (Index i) (Index j) = refl

pub step_total : IsTotalOrder step_cmp
step_total = record { antisymm = back; trans = trans; congr = congr } where
  back : (x y : Step) → step_cmp x y ≡ ordering_reverse (step_cmp y x)
  back (Name a) (Name b) = nat_list_cmp_total.antisymm a b
  back (Name a) (Index j) = refl
  back (Index i) (Name b) = refl
  back (Index i) (Index j) = nat_cmp_total.antisymm i j

  trans : (x y z : Step) → step_cmp x y ≡ Less → step_cmp y z ≡ Less → step_cmp x z ≡ Less
  trans (Name a) (Name b) (Name c) e f = nat_list_cmp_total.trans a b c e f
  trans (Name a) (Name b) (Index k) e f = refl
  trans (Name a) (Index j) (Name c) e f = let h : ⊥ = cc in absurd h
  trans (Name a) (Index j) (Index k) e f = refl
  trans (Index i) (Name b) z e f = let h : ⊥ = cc in absurd h
  trans (Index i) (Index j) (Name c) e f = let h : ⊥ = cc in absurd h
  trans (Index i) (Index j) (Index k) e f = nat_cmp_total.trans i j k e f

  congr : (x y z : Step) → step_cmp x y ≡ Equal → step_cmp x z ≡ step_cmp y z
  congr (Name a) (Name b) (Name c) e = nat_list_cmp_total.congr a b c e
  congr (Name a) (Name b) (Index k) e = refl
  congr (Name a) (Index j) z e = let h : ⊥ = cc in absurd h
  congr (Index i) (Name b) z e = let h : ⊥ = cc in absurd h
  congr (Index i) (Index j) (Name c) e = refl
  congr (Index i) (Index j) (Index k) e = nat_cmp_total.congr i j k e

-- steps that tie are the same
step_ties : (x y : Step) → step_cmp x y ≡ Equal → x ≡ y
step_ties (Name a) (Name b) e = ap (λ n. Name n) ((bytes_decides a b).0 (sym (is_eq-slice_cmp a b) ∙ ap is_eq e))
step_ties (Name a) (Index j) e = let h : ⊥ = cc in absurd h
step_ties (Index i) (Name b) e = let h : ⊥ = cc in absurd h
step_ties (Index i) (Index j) e = ap (λ n. Index n) (go (nat_cmp i j) (ranked i j (nat_cmp i j) refl) e) where
  go : (o : Ordering) → MatchOrdering o (i < j) (i ≡ j) (j < i) → o ≡ Equal → i ≡ j
  go Less r f = let h : ⊥ = cc in absurd h
  go Equal r f = r
  go Greater r f = let h : ⊥ = cc in absurd h

abbrev pub steps_cmp : List Step → List Step → Ordering
steps_cmp = slice_cmp step_cmp

pub same_orders : (p q : List Step) → slice_cmp ghosts.cmp p q ≡ steps_cmp p q
same_orders [] [] = refl
same_orders [] (y ∷ q) = refl
same_orders (x ∷ p) [] = refl
same_orders (x ∷ p) (y ∷ q) = ap (λ o. ordering_then o (slice_cmp ghosts.cmp p q)) (same_order x y) ∙ ap (ordering_then (step_cmp x y)) (same_orders p q)

-- what lies between a front and what it begins is begun by it
between : (p x m : List Step) → is_gt (steps_cmp p x) ≡ false → is_gt (steps_cmp x (p ++ m)) ≡ false → (n : List Step) × (p ++ n ≡ x)
between [] x m low high = (x, refl)
between (a ∷ p) [] m low high = absurd (true≢false low)
between (a ∷ p) (b ∷ x) m low high =
    go (step_cmp a b) refl low (subst (λ o. is_gt (ordering_then o (steps_cmp x (p ++ m))) ≡ false) (step_total.antisymm b a) high) (between p x m) where
      go : (o : Ordering) → step_cmp a b ≡ o → is_gt (ordering_then o (steps_cmp p x)) ≡ false
          → is_gt (ordering_then (ordering_reverse o) (steps_cmp x (p ++ m))) ≡ false
          → (is_gt (steps_cmp p x) ≡ false → is_gt (steps_cmp x (p ++ m)) ≡ false → (n : List Step) × (p ++ n ≡ x))
          → (n : List Step) × (a ∷ (p ++ n) ≡ b ∷ x)
      go Less e l h ih = absurd (true≢false h)
      go Equal e l h ih = let r = ih l h in (r.0, ap (λ z. z ∷ (p ++ r.0)) (step_ties a b e) ∙ ap (λ t. b ∷ t) r.1)
      go Greater e l h ih = absurd (true≢false l)

-- a front is not above what it begins
front_below : (p m : List Step) → is_gt (steps_cmp p (p ++ m)) ≡ false
front_below [] [] = refl
front_below [] (y ∷ m) = refl
front_below (a ∷ p) m = ap (λ o. is_gt (ordering_then o (steps_cmp p (p ++ m)))) (tied_itself step_total a) ∙ front_below p m

-- of two paths in order that overlap, the first begins the second
first_begins : (p q : DocPath) → is_gt (steps_cmp p.steps q.steps) ≡ false → Overlap p q → Begins p q
first_begins p q low (inl begun) = begun
first_begins p q low (inr (m, is)) =
    between p.steps q.steps [] low (subst (λ l. is_gt (steps_cmp q.steps l) ≡ false) (is ∙ sym (append-nil p.steps)) (front_below q.steps m))

-- paths none of which is above a later one
abbrev pub AreInOrder : List DocPath → Type 0
AreInOrder paths = (i j : ℕ) (p q : DocPath) → i ≤ j → slice_get paths i ≡ Some p → slice_get paths j ≡ Some q → is_gt (steps_cmp p.steps q.steps) ≡ false

-- what stands at a place before the end
at_place : (paths : List DocPath) (k : ℕ) → k < length paths → (p : DocPath) × (slice_get paths k ≡ Some p)
at_place [] k within = let h : ⊥ = omega (arith, within) in absurd h
at_place (p ∷ paths) zero within = (p, refl)
at_place (p ∷ paths) (suc k) within = at_place paths k (omega (arith, within))

-- where two paths in order overlap, two neighbours do
pub neighbours : (paths : List DocPath) → AreInOrder paths → HaveOverlap paths → SomeNeighbours paths
neighbours paths ordered h =
    let within = slice_get_within paths h.j h.q h.second in
    let next = at_place paths (h.i + 1) (omega (arith, h.apart, within)) in
    let begun = first_begins h.p h.q (ordered h.i h.j h.p h.q (omega (arith, h.apart)) h.first h.second) h.overlap in
    record {
      place = h.i;
      p = h.p;
      q = next.0;
      first = h.first;
      second = next.1;
      overlap = inl (between h.p.steps next.0.steps begun.0 (ordered h.i (h.i + 1) h.p next.0 (omega arith) h.first next.1)
          (subst (λ l. is_gt (steps_cmp next.0.steps l) ≡ false) (sym begun.1)
          (ordered (h.i + 1) h.j next.0 h.q (omega (arith, h.apart)) next.1 h.second)));
    }

pub of_neighbours : (paths : List DocPath) → SomeNeighbours paths → HaveOverlap paths
of_neighbours paths n = record { i = n.place; j = n.place + 1; p = n.p; q = n.q; apart = omega arith; first = n.first; second = n.second; overlap = n.overlap }

-- what is lent at a place
pub pointee_at : (paths : List (Bor DocPath)) (k : ℕ) (d : Bor DocPath) → k < length paths → slice_get (pointees paths) k ≡ Some ((get_or paths k d).now)
pointee_at [] k d within = let h : ⊥ = omega (arith, within) in absurd h
pointee_at (p ∷ paths) zero d within = refl
pointee_at (p ∷ paths) (suc k) d within = pointee_at paths k d (omega (arith, within))

pub length_pointees : (paths : List (Bor DocPath)) → length (pointees paths) ≡ length paths
length_pointees [] = refl
length_pointees (p ∷ paths) = ap (λ n. suc n) (length_pointees paths)

abbrev pub is : DocPath → Option DocPath
is p = Some p

pub same_path : (p q : DocPath) → is p ≡ is q → p ≡ q
same_path p q e = cc

-- the pass over neighbours
pub neighbours_found : (paths : List (Bor DocPath)) (place : ℕ) (p q : Bor DocPath) → 1 ≤ place → place < length paths
    → p ≡ get_or paths (place - 1) p → q ≡ get_or paths place q → Overlap p.now q.now → SomeNeighbours (pointees paths)
neighbours_found paths place p q some within p_is q_is overlap =
    let after : place - 1 + 1 ≡ place = omega (arith, some) in
    record {
      place = place - 1;
      p = p.now;
      q = q.now;
      first = pointee_at paths (place - 1) p (omega (arith, within, some)) ∙ ap (λ r. is r.now) (sym p_is);
      second = ap (slice_get (pointees paths)) after ∙ pointee_at paths place q within ∙ ap (λ r. is r.now) (sym q_is);
      overlap = overlap;
    }

-- no neighbours before a place overlap
abbrev pub ClearBefore : List (Bor DocPath) → ℕ → Type 0
ClearBefore paths place =
    (k : ℕ) (p q : DocPath) → k + 1 < place → slice_get (pointees paths) k ≡ Some p → slice_get (pointees paths) (k + 1) ≡ Some q → ¬ Overlap p q

pub neighbours_next : (paths : List (Bor DocPath)) (place : ℕ) (p q : Bor DocPath) → 1 ≤ place → place < length paths
    → p ≡ get_or paths (place - 1) p → q ≡ get_or paths place q → ¬ Overlap p.now q.now → ClearBefore paths place → ClearBefore paths (place + 1)
neighbours_next paths place p q some within p_is q_is apart clear k p' q' early first second overlap = go (eq-zero-or-pos (place - (k + 1))) where
  go : (place - (k + 1) ≡ 0) ⊎ (0 < place - (k + 1)) → ⊥
  go (inr less) = clear k p' q' (omega (arith, less)) first second overlap
  go (inl e) =
      let here : k ≡ place - 1 = omega (arith, e, early) in
      let next : k + 1 ≡ place = omega (arith, e, early, some) in
      let p_same = same_path p' p.now (sym first ∙ ap (slice_get (pointees paths)) here ∙ pointee_at paths (place - 1) p (omega (arith, within, some)) ∙ ap (λ r. is r.now) (sym p_is)) in
      let q_same = same_path q' q.now (sym second ∙ ap (slice_get (pointees paths)) next ∙ pointee_at paths place q within ∙ ap (λ r. is r.now) (sym q_is)) in
      apart (subst (λ r. Overlap p.now r) q_same (subst (λ r. Overlap r q') p_same overlap))

pub neighbours_none : (paths : List (Bor DocPath)) (place : ℕ) → length paths ≤ place → ClearBefore paths place → ¬ SomeNeighbours (pointees paths)
neighbours_none paths place past clear n =
    let within = slice_get_within (pointees paths) (n.place + 1) n.q n.second in
    clear n.place n.p n.q (omega (arith, within, past, length_pointees paths)) n.first n.second n.overlap
