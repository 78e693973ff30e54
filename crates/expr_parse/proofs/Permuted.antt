-- The same paths in another order overlap alike.
use Rattle.std.proofs.Common.{◌≡◌, ◌≢◌, ◌+◌, ◌-◌, ◌<◌, ◌≤◌, ◌⊎◌, inl, inr, ℕ, Bool, false, List, [], ◌∷◌, length, get_or, Ordering, Less, Equal, Greater, is_lt, refl, sym, ap, subst, ◌∙◌, arith, eq-zero-or-pos, IsPermutation}
use Rattle.std.specs.List.{swap}
use Rattle.std.specs.List.Sorted.{IsSortedBy}
use Rattle.std.specs.Ordering.{is_gt, ordering_reverse}
use Rattle.std.specs.Cmp.Lexicographic.{slice_cmp}
use Rattle.std.specs.Borrow.{Bor}
use Rattle.std.proofs.lemmas.List.Sorted.{IsPermutation-keeps, IsPermutation-sym, IsPermutation-map, sorted_far, ranks_by}
use Rattle.std.proofs.lemmas.List.Edits.{swapped_from_swap, length-swap}
use Rattle.std.proofs.lemmas.Option.{slice_get-get_or, slice_get_within, get_or_from_slice_get}
use Rattle.std.proofs.lemmas.Cmp.{lists_total}
use Rattle.base_types.specs.declared.path.DocPath.{DocPath}
use Rattle.base_types.specs.contracts.path.StepOrd.TheImpl.{ghosts}
use Rattle.expr_parse.specs.Overlaps.{Overlap, HaveOverlap, pointees}
use Rattle.expr_parse.proofs.Ordered.{steps_cmp, step_total, same_orders, AreInOrder, pointee_at, length_pointees, same_path}

overlap_turned : (p q : DocPath) → Overlap p q → Overlap q p
overlap_turned p q (inl b) = inr b
overlap_turned p q (inr b) = inl b

-- at two different places there are paths that overlap
record Meet (d : DocPath) (paths : List DocPath) : Type 0 where
  i : ℕ
  j : ℕ
  apart : i ≢ j
  first : i < length paths
  second : j < length paths
  overlap : Overlap (get_or paths i d) (get_or paths j d)

-- where what stood at a place stands after an exchange
record Moved (d : DocPath) (old new : List DocPath) (a b i : ℕ) : Type 0 where
  to : ℕ
  within : to < length new
  same : get_or new to d ≡ get_or old i d
  from_a : i ≡ a → to ≡ b
  from_b : i ≡ b → to ≡ a
  other : i ≢ a → i ≢ b → to ≡ i

either_place : (i a : ℕ) → (i ≡ a) ⊎ (i ≢ a)
either_place i a = go (eq-zero-or-pos ((i - a) + (a - i))) where
  go : ((i - a) + (a - i) ≡ 0) ⊎ (0 < (i - a) + (a - i)) → (i ≡ a) ⊎ (i ≢ a)
  go (inl e) = inl (omega (arith, e))
  go (inr p) = inr (λ same. omega (arith, p, same))

moved : (d : DocPath) (old : List DocPath) (a b i : ℕ) → a < length old → b < length old → i < length old → Moved d old (swap old a b) a b i
moved d old a b i in_a in_b in_i = go (either_place i a) (either_place i b) where
  new : List DocPath
  new = swap old a b

  size : length (swap old a b) ≡ length old
  size = length-swap old a b

  go : (i ≡ a) ⊎ (i ≢ a) → (i ≡ b) ⊎ (i ≢ b) → Moved d old (swap old a b) a b i
  go (inl e) _ = record {
    to = b;
    within = omega (arith, size, in_b);
    same = (swapped_from_swap old (swap old a b) a b d in_a in_b refl).1 ∙ ap (λ n. get_or old n d) (sym e);
    from_a = (λ _. refl);
    from_b = (λ f. sym f ∙ e);
    other = (λ n _. absurd (n e));
  }
  go (inr n) (inl e) = record {
    to = a;
    within = omega (arith, size, in_a);
    same = (swapped_from_swap old (swap old a b) a b d in_a in_b refl).0 ∙ ap (λ n. get_or old n d) (sym e);
    from_a = (λ f. absurd (n f));
    from_b = (λ _. refl);
    other = (λ _ m. absurd (m e));
  }
  go (inr n) (inr m) = record {
    to = i;
    within = omega (arith, size, in_i);
    same = (swapped_from_swap old (swap old a b) a b d in_a in_b refl).2 i n m;
    from_a = (λ f. absurd (n f));
    from_b = (λ f. absurd (m f));
    other = (λ _ _. refl);
  }

-- different places move to different places
still_apart : (d : DocPath) (old : List DocPath) (a b i j : ℕ) (x : Moved d old (swap old a b) a b i) (y : Moved d old (swap old a b) a b j) → i ≢ j → x.to ≢ y.to
still_apart d old a b i j x y apart same = go (either_place i a) (either_place i b) (either_place j a) (either_place j b) where
  go : (i ≡ a) ⊎ (i ≢ a) → (i ≡ b) ⊎ (i ≢ b) → (j ≡ a) ⊎ (j ≢ a) → (j ≡ b) ⊎ (j ≢ b) → ⊥
  go (inl e) _ (inl f) _ = apart (e ∙ sym f)
  go (inl e) _ (inr f) (inl g) = f (g ∙ sym (x.from_a e) ∙ same ∙ y.from_b g)
  go (inl e) _ (inr f) (inr g) = g (sym (y.other f g) ∙ sym same ∙ x.from_a e)
  go (inr e) (inl h) (inl f) _ = e (h ∙ sym (y.from_a f) ∙ sym same ∙ x.from_b h)
  go (inr e) (inl h) (inr f) (inl g) = apart (h ∙ sym g)
  go (inr e) (inl h) (inr f) (inr g) = f (sym (y.other f g) ∙ sym same ∙ x.from_b h)
  go (inr e) (inr h) (inl f) _ = h (sym (x.other e h) ∙ same ∙ y.from_a f)
  go (inr e) (inr h) (inr f) (inl g) = e (sym (x.other e h) ∙ same ∙ y.from_b g)
  go (inr e) (inr h) (inr f) (inr g) = apart (sym (x.other e h) ∙ same ∙ y.other f g)

meet_swapped : (d : DocPath) (paths : List DocPath) (a b : ℕ) → a < length paths → b < length paths → Meet d paths → Meet d (swap paths a b)
meet_swapped d paths a b in_a in_b m =
    let x = moved d paths a b m.i in_a in_b m.first in
    let y = moved d paths a b m.j in_a in_b m.second in
    record {
      i = x.to;
      j = y.to;
      apart = still_apart d paths a b m.i m.j x y m.apart;
      first = x.within;
      second = y.within;
      overlap = subst (λ q. Overlap (get_or (swap paths a b) x.to d) q) (sym y.same) (subst (λ p. Overlap p (get_or paths m.j d)) (sym x.same) m.overlap);
    }

of_meet : (d : DocPath) (paths : List DocPath) → Meet d paths → HaveOverlap paths
of_meet d paths m = go (eq-zero-or-pos (m.j - m.i)) where
  go : (m.j - m.i ≡ 0) ⊎ (0 < m.j - m.i) → HaveOverlap paths
  go (inr less) = record {
    i = m.i;
    j = m.j;
    p = get_or paths m.i d;
    q = get_or paths m.j d;
    apart = omega (arith, less);
    first = slice_get-get_or paths m.i d m.first;
    second = slice_get-get_or paths m.j d m.second;
    overlap = m.overlap;
  }
  go (inl e) = record {
    i = m.j;
    j = m.i;
    p = get_or paths m.j d;
    q = get_or paths m.i d;
    apart = (let n = m.apart in omega (arith, e, n));
    first = slice_get-get_or paths m.j d m.second;
    second = slice_get-get_or paths m.i d m.first;
    overlap = overlap_turned (get_or paths m.i d) (get_or paths m.j d) m.overlap;
  }

meet_of : (paths : List DocPath) (h : HaveOverlap paths) → Meet h.p paths
meet_of paths h = record {
  i = h.i;
  j = h.j;
  apart = (let a = h.apart in λ e. omega (arith, a, e));
  first = slice_get_within paths h.i h.p h.first;
  second = slice_get_within paths h.j h.q h.second;
  overlap = subst (λ q. Overlap (get_or paths h.i h.p) q) (sym (get_or_from_slice_get paths h.j h.q h.p h.second))
      (subst (λ p. Overlap p h.q) (sym (get_or_from_slice_get paths h.i h.p h.p h.first)) h.overlap);
}

-- of paths in another order two overlap too
overlap_permuted : (paths others : List DocPath) → IsPermutation paths others → HaveOverlap paths → HaveOverlap others
overlap_permuted paths others moves h =
    of_meet h.p others (IsPermutation-keeps paths (Meet h.p) (meet_of paths h) (λ l i j a b m. meet_swapped h.p l i j a b m) others moves)

pub overlap_sorted : (paths others : List (Bor DocPath)) → IsPermutation paths others
    → (HaveOverlap (pointees paths) → HaveOverlap (pointees others)) × (HaveOverlap (pointees others) → HaveOverlap (pointees paths))
overlap_sorted paths others moves =
    let along = IsPermutation-map (λ (p : Bor DocPath). p.now) paths others moves in
    (overlap_permuted (pointees paths) (pointees others) along, overlap_permuted (pointees others) (pointees paths) (IsPermutation-sym _ _ along))

not_above : (o : Ordering) → is_lt (ordering_reverse o) ≡ false → is_gt o ≡ false
not_above Less e = refl
not_above Equal e = refl
not_above Greater e = e

some_path : (paths : List (Bor DocPath)) → 1 ≤ length paths → Bor DocPath
some_path [] some = let h : ⊥ = omega (arith, some) in absurd h
some_path (p ∷ paths) some = p

-- what a sort leaves is in order
pub in_order : (paths : List (Bor DocPath)) → IsSortedBy (λ x y. is_lt (slice_cmp ghosts.cmp x.now.steps y.now.steps)) paths → AreInOrder (pointees paths)
in_order paths sorted i j p q less first second =
    let lt : Bor DocPath → Bor DocPath → Bool = λ x y. is_lt (steps_cmp x.now.steps y.now.steps) in
    let by : IsSortedBy lt paths = (λ k d low high. ap is_lt (sym (same_orders (get_or paths (k + 1) d).now.steps (get_or paths k d).now.steps)) ∙ sorted k d low high) in
    let inside = slice_get_within (pointees paths) j q second in
    let within : j < length paths = omega (arith, inside, length_pointees paths) in
    let d = some_path paths (omega (arith, within)) in
    let p_is = same_path p (get_or paths i d).now (sym first ∙ pointee_at paths i d (omega (arith, within, less))) in
    let q_is = same_path q (get_or paths j d).now (sym second ∙ pointee_at paths j d within) in
    let far = sorted_far lt (ranks_by (lists_total step_total) (λ (x : Bor DocPath). x.now.steps)) paths by i j d less within in
    let below : is_gt (steps_cmp (get_or paths i d).now.steps (get_or paths j d).now.steps) ≡ false =
    not_above (steps_cmp (get_or paths i d).now.steps (get_or paths j d).now.steps)
    (subst (λ o. is_lt o ≡ false) ((lists_total step_total).antisymm (get_or paths j d).now.steps (get_or paths i d).now.steps) far) in
    subst (λ x. is_gt (steps_cmp x.steps q.steps) ≡ false) (sym p_is) (subst (λ x. is_gt (steps_cmp (get_or paths i d).now.steps x.steps) ≡ false) (sym q_is) below)
