-- Among writes in order those below one step stand side by side.
use Rattle.std.proofs.Common.{◌≡◌, ℕ, zero, suc, ◌+◌, ◌-◌, min, filter, ◌<◌, ◌≤◌, List, [], ◌∷◌, length, take, drop, map, Some, None, Bool, true, false, Ordering, Less, Equal, Greater, nat_cmp, is_eq, refl, sym, ap, ◌∙◌, subst, arith, ⊎_elim}
use Rattle.std.proofs.lemmas.Bool.{cases_eq}
use Rattle.std.proofs.lemmas.Bool.Decides.{Decides-eqb}
use Rattle.std.proofs.lemmas.Cmp.{nat_list_cmp_total, nat_cmp_total}
use Rattle.std.proofs.Common.{cond}
use Rattle.std.proofs.lemmas.Slice.Eq.{bytes_eq-Decides}
use Rattle.std.proofs.lemmas.List.{length-take, length-drop, get_or-take, get_or-drop}
use Rattle.std.proofs.lemmas.Map.Text.{is_eq-slice_cmp}
use Rattle.std.specs.Cmp.{IsTotalOrder, nat_cmp_is, Equal-is}
use Rattle.std.proofs.lemmas.Map.Lookups.{exact_unsigned}
use Rattle.std.specs.Cmp.Lexicographic.{slice_cmp}
use Rattle.std.specs.List.{AllByRecursion, AllPass}
use Rattle.std.specs.List.Sorted.{IsPartitionPoint}
use Rattle.path_entries.specs.declared.key.PathEntry.{PathEntry}
use Rattle.std.specs.Prelude.{slice_index_or, ◌==◌}
use Rattle.std.specs.Ordering.{is_gt, is_lt, is_le, ordering_then, ordering_reverse}
use Rattle.base_types.specs.declared.path.Step.{Step}
use Rattle.base_types.specs.declared.path.Step.TheVariants as step
use Rattle.path_entries.specs.Entries.{entries_of, begins, behind, below, passes, or_rest}
use Rattle.path_entries.specs.Order.{step_order, step_key_order, path_order, key_order, AreInOrder}
use Rattle.path_entries.specs.declared.key.Key.{Key}
use Rattle.path_entries.specs.declared.key.Key.TheVariants.{Name, Place}

-- ---- what a test leaves where it holds nowhere else

module _ {X : Type 0} (p : X → Bool) where
  filter_drop : (a : ℕ) (xs : List X) → ((k : ℕ) (d : X) → k < a → k < length xs → p (slice_index_or xs k d) ≡ false) → filter p (drop a xs) ≡ filter p xs
  filter_drop zero xs h = refl
  filter_drop (suc a) [] h = refl
  filter_drop (suc a) (x ∷ xs) h =
      filter_drop a xs (λ k d low high. h (suc k) d (omega arith) (omega arith))
      ∙ sym (ap (λ b. cond b (x ∷ filter p xs) (filter p xs)) (h 0 x (omega arith) (omega arith)))

  filter_take : (b : ℕ) (xs : List X) → ((k : ℕ) (d : X) → b ≤ k → k < length xs → p (slice_index_or xs k d) ≡ false) → filter p (take b xs) ≡ filter p xs
  filter_take zero [] h = refl
  filter_take zero (x ∷ xs) h =
      filter_take zero xs (λ k d low high. h (suc k) d (omega arith) (omega arith))
      ∙ sym (ap (λ b. cond b (x ∷ filter p xs) (filter p xs)) (h 0 x (omega arith) (omega arith)))
  filter_take (suc b) [] h = refl
  filter_take (suc b) (x ∷ xs) h = ap (λ ys. cond (p x) (x ∷ ys) ys) (filter_take b xs (λ k d low high. h (suc k) d (omega arith) (omega arith)))

  filter_all : (xs : List X) → AllPass p xs → filter p xs ≡ xs
  filter_all [] h = refl
  filter_all (x ∷ xs) h =
      ap (λ b. cond b (x ∷ filter p xs) (filter p xs)) (h 0 x (omega arith))
      ∙ ap (λ ys. x ∷ ys) (filter_all xs (λ k d within. h (suc k) d (omega arith)))

-- ---- entries that do not begin so add nothing

nothing_behind : {A : Type 0} (test : Step → Bool) (steps : List Step) (v : A) → begins test steps ≡ false → behind test steps v ≡ None
nothing_behind test [] v e = refl
nothing_behind test (s ∷ steps) v e = ap (λ b. cond b (Some (steps, v)) None) e

one_more : {A : Type 0} (test : Step → Bool) (e : PathEntry A) (es kept : List (PathEntry A)) → below test (entries_of kept) ≡ below test (entries_of es)
    → (b : Bool) → begins test e.steps.now ≡ b → below test (entries_of (cond b (e ∷ kept) kept)) ≡ below test (entries_of (e ∷ es))
one_more test e es kept same true here = ap (or_rest _) same
one_more test e es kept same false here = same ∙ sym (ap (λ o. or_rest o (below test (entries_of es))) (nothing_behind test e.steps.now e.value here))

pub below_filter : {A : Type 0} (test : Step → Bool) (es : List (PathEntry A)) → below test (entries_of (filter (λ e. begins test e.steps.now) es)) ≡ below test (entries_of es)
below_filter test [] = refl
below_filter test (e ∷ es) = one_more test e es (filter (λ f. begins test f.steps.now) es) (below_filter test es) (begins test e.steps.now) refl

-- ---- a first step beside the one that is looked for

only_false : (b : Bool) → (b ≡ true → ⊥) → b ≡ false
only_false true never = absurd (never refl)
only_false false never = refl

other_place : (i p : ℕ) → is_eq (nat_cmp i p) ≡ false → (i == p) ≡ false
other_place i p e = only_false (i == p) (λ same. let h : ⊥ = let t : is_eq (nat_cmp i p) ≡ true = ap is_eq (sym (nat_cmp_is i p Equal ((Decides-eqb i p).0 same))) in cc in h)

-- a first step below it or above it
begins_not : (key : Key) (steps : List Step) → is_eq (key_order key steps) ≡ false → begins (passes key) steps ≡ false
begins_not key [] e = refl
begins_not (Name n) (step.Name m ∷ steps) e = sym (is_eq-slice_cmp m n.now) ∙ e
begins_not (Name n) (step.Index i ∷ steps) e = refl
begins_not (Place p) (step.Name m ∷ steps) e = refl
begins_not (Place p) (step.Index i ∷ steps) e = other_place i p e

pub elsewhere : {A : Type 0} (key : Key) (steps : List Step) (v : A) → is_eq (key_order key steps) ≡ false → behind (passes key) steps v ≡ None
elsewhere key steps v e = nothing_behind (passes key) steps v (begins_not key steps e)

not_eq_below : (o : Ordering) → is_lt o ≡ true → is_eq o ≡ false
not_eq_below Less e = refl
not_eq_below Equal e = cc
not_eq_below Greater e = cc

not_eq_above : (o : Ordering) → is_le o ≡ false → is_eq o ≡ false
not_eq_above Less e = cc
not_eq_above Equal e = cc
not_eq_above Greater e = refl

-- a first step neither below it nor above it
passes_here : (key : Key) (first : Step) → is_eq (step_key_order key first) ≡ true → passes key first ≡ true
passes_here (Name n) (step.Name m) t = sym (is_eq-slice_cmp m n.now) ∙ t
passes_here (Name n) (step.Index i) t = cc
passes_here (Place p) (step.Name m) t = cc
passes_here (Place p) (step.Index i) t = (Decides-eqb i p).1 (exact_unsigned i p ((Equal-is (nat_cmp i p)).0 t))

between : (o : Ordering) → is_lt o ≡ false → is_le o ≡ true → is_eq o ≡ true
between Less low high = cc
between Equal low high = refl
between Greater low high = cc

begins_here : (key : Key) (steps : List Step) → is_lt (key_order key steps) ≡ false → is_le (key_order key steps) ≡ true → begins (passes key) steps ≡ true
begins_here key [] low high = cc
begins_here key (first ∷ steps) low high = passes_here key first (between (step_key_order key first) low high)

-- ---- along the order of paths the first step does not fall

module _ {K : Type 0} (R : K → K → Ordering) (total : IsTotalOrder R) where
  lower : (a b c : K) → (o : Ordering) → R a b ≡ o → is_gt o ≡ false → is_lt (R b c) ≡ true → (p : Ordering) → R b c ≡ p → is_lt p ≡ true → is_lt (R a c) ≡ true
  lower a b c Less e h l Less q m = ap is_lt (total.trans a b c e q)
  lower a b c Equal e h l p q m = ap is_lt (total.congr a b c e) ∙ l
  lower a b c Greater e h l p q m = cc
  lower a b c o e h l Equal q m = cc
  lower a b c o e h l Greater q m = cc

  pub stays_below : (a b c : K) → is_gt (R a b) ≡ false → is_lt (R b c) ≡ true → is_lt (R a c) ≡ true
  stays_below a b c h l = lower a b c (R a b) refl h l (R b c) refl l

  upper : (a b c : K) (o : Ordering) → R a b ≡ o → is_gt o ≡ false → (p : Ordering) → R b c ≡ p → is_le p ≡ true → is_le (R a c) ≡ true
  upper a b c Less e h Less q m = ap is_le (total.trans a b c e q)
  upper a b c Less e h Equal q m =
      let turned : R b a ≡ R c a = total.congr b c a q in
      ap is_le (total.antisymm a c ∙ ap ordering_reverse (sym turned) ∙ sym (total.antisymm a b) ∙ e)
  upper a b c Equal e h p q m = ap is_le (total.congr a b c e ∙ q) ∙ m
  upper a b c Greater e h p q m = cc
  upper a b c o e h Greater q m = cc

  pub stays_at_most : (a b c : K) → is_gt (R a b) ≡ false → is_le (R b c) ≡ true → is_le (R a c) ≡ true
  stays_at_most a b c h l = upper a b c (R a b) refl h (R b c) refl l

first_not_above : (o p : Ordering) → is_gt (ordering_then o p) ≡ false → is_gt o ≡ false
first_not_above Less p h = refl
first_not_above Equal p h = refl
first_not_above Greater p h = h

pub key_below : (key : Key) (p q : List Step) → is_gt (path_order p q) ≡ false → is_lt (key_order key q) ≡ true → is_lt (key_order key p) ≡ true
key_below key [] q h l = refl
key_below key (s ∷ p) [] h l = cc
key_below (Name n) (step.Name a ∷ p) (step.Name b ∷ q) h l = stays_below (slice_cmp nat_cmp) nat_list_cmp_total a b n.now (first_not_above _ _ h) l
key_below (Name n) (step.Name a ∷ p) (step.Index j ∷ q) h l = cc
key_below (Name n) (step.Index i ∷ p) (step.Name b ∷ q) h l = cc
key_below (Name n) (step.Index i ∷ p) (step.Index j ∷ q) h l = cc
key_below (Place k) (step.Name a ∷ p) (t ∷ q) h l = refl
key_below (Place k) (step.Index i ∷ p) (step.Name b ∷ q) h l = cc
key_below (Place k) (step.Index i ∷ p) (step.Index j ∷ q) h l = stays_below nat_cmp nat_cmp_total i j k (first_not_above _ _ h) l

pub key_at_most : (key : Key) (p q : List Step) → is_gt (path_order p q) ≡ false → is_le (key_order key q) ≡ true → is_le (key_order key p) ≡ true
key_at_most key [] q h l = refl
key_at_most key (s ∷ p) [] h l = cc
key_at_most (Name n) (step.Name a ∷ p) (step.Name b ∷ q) h l = stays_at_most (slice_cmp nat_cmp) nat_list_cmp_total a b n.now (first_not_above _ _ h) l
key_at_most (Name n) (step.Name a ∷ p) (step.Index j ∷ q) h l = cc
key_at_most (Name n) (step.Index i ∷ p) (step.Name b ∷ q) h l = cc
key_at_most (Name n) (step.Index i ∷ p) (step.Index j ∷ q) h l = cc
key_at_most (Place k) (step.Name a ∷ p) (t ∷ q) h l = refl
key_at_most (Place k) (step.Index i ∷ p) (step.Name b ∷ q) h l = cc
key_at_most (Place k) (step.Index i ∷ p) (step.Index j ∷ q) h l = stays_at_most nat_cmp nat_cmp_total i j k (first_not_above _ _ h) l

-- ---- order by place

module _ {A X : Type 0} (f : X → List Step × A) where
  at_place : (P : List Step × A → Type 0) (xs : List X) → AllByRecursion P (map f xs) → (k : ℕ) (d : X) → k < length xs → P (f (slice_index_or xs k d))
  at_place P [] h k d low = absurd (omega arith)
  at_place P (x ∷ xs) h zero d low = h.0
  at_place P (x ∷ xs) h (suc k) d low = at_place P xs h.1 k d (omega arith)

  pub in_order : (xs : List X) → AreInOrder (map f xs) → (i j : ℕ) (d : X) → i < j → j < length xs → is_gt (path_order (f (slice_index_or xs i d)).0 (f (slice_index_or xs j d)).0) ≡ false
  in_order [] h i j d low high = absurd (omega arith)
  in_order (x ∷ xs) h i zero d low high = absurd (omega arith)
  in_order (x ∷ xs) h zero (suc j) d low high = at_place (λ v. is_gt (path_order (f x).0 v.0) ≡ false) xs h.0 j d (omega arith)
  in_order (x ∷ xs) h (suc i) (suc j) d low high = in_order xs h.1 i j d (omega arith) (omega arith)

  -- a test that holds along the order does so up to some place
  pub partitioned : (p : List Step → Bool) → ((q r : List Step) → is_gt (path_order q r) ≡ false → p r ≡ true → p q ≡ true) → (xs : List X) → AreInOrder (map f xs)
      → (i j : ℕ) (d : X) → i ≤ j → j < length xs → p (f (slice_index_or xs j d)).0 ≡ true → p (f (slice_index_or xs i d)).0 ≡ true
  partitioned p falls xs h i j d low high t = ⊎_elim
      (λ e. subst (λ k. p (f (slice_index_or xs k d)).0 ≡ true) (sym e) t)
      (λ other. falls _ _ (in_order xs h i j d (omega (arith, other)) high) t)
      (cases_eq i j)

  -- what is behind the first of some that are in order is in order
  pub order_drop : (a : ℕ) (xs : List X) → AreInOrder (map f xs) → AreInOrder (map f (drop a xs))
  order_drop zero xs h = h
  order_drop (suc a) [] h = tt
  order_drop (suc a) (x ∷ xs) h = order_drop a xs h.1

first_is : {A : Type 0} (key : Key) (first : Step) (rest : List Step) (v : A) → is_eq (step_key_order key first) ≡ true → Some (rest, v) ≡ behind (passes key) (first ∷ rest) v
first_is key first rest v t = rw (passes_here key first t) refl

pub first_here : {A : Type 0} (key : Key) (steps : List Step) (first : Step) (rest : List Step) (v : A) → steps ≡ first ∷ rest → is_eq (key_order key steps) ≡ true → Some (rest, v) ≡ behind (passes key) steps v
first_here key steps first rest v e t = first_is key first rest v (subst (λ s. is_eq (key_order key s) ≡ true) e t) ∙ ap (λ s. behind (passes key) s v) (sym e)

-- ---- what two searches by halves leave

module _ {A : Type 0} (key : Key) (xs rest : List (PathEntry A)) (from count : ℕ) (behind_from : rest ≡ drop from xs)
    (low : IsPartitionPoint (λ e. is_lt (key_order key e.steps.now) ≡ true) (λ e. is_lt (key_order key e.steps.now) ≡ false) xs from)
    (high : IsPartitionPoint (λ e. is_le (key_order key e.steps.now) ≡ true) (λ e. is_le (key_order key e.steps.now) ≡ false) rest count)
  where
    all_begin : AllPass (λ e. begins (passes key) e.steps.now) (take count rest)
    all_begin k d within =
        let shown : k < min count (length rest) = subst (λ n. k < n) (length-take count rest) within in
        let in_rest : k < length xs - from = subst (λ n. k < n) (ap length behind_from ∙ length-drop from xs) (omega (arith, shown)) in
        let here : slice_index_or rest k d ≡ slice_index_or xs (from + k) d = ap (λ r. slice_index_or r k d) behind_from ∙ get_or-drop from xs k d in
        let not_below = subst (λ x. is_lt (key_order key x.steps.now) ≡ false) (sym here) (low.1 (from + k) d (omega arith) (omega (arith, in_rest))) in
        subst (λ x. begins (passes key) x.steps.now ≡ true) (sym (get_or-take count rest k d (omega (arith, shown))))
        (begins_here key (slice_index_or rest k d).steps.now not_below (high.0 k d (omega arith) (omega (arith, shown))))

    pub range_is : take count rest ≡ filter (λ e. begins (passes key) e.steps.now) xs
    range_is =
        sym (filter_all (λ e. begins (passes key) e.steps.now) (take count rest) all_begin)
        ∙ filter_take (λ e. begins (passes key) e.steps.now) count rest
        (λ k d lo hi. begins_not key (slice_index_or rest k d).steps.now (not_eq_above _ (high.1 k d lo hi)))
        ∙ ap (λ r. filter (λ e. begins (passes key) e.steps.now) r) behind_from
        ∙ filter_drop (λ e. begins (passes key) e.steps.now) from xs
        (λ k d lo hi. begins_not key (slice_index_or xs k d).steps.now (not_eq_below _ (low.0 k d (omega arith) lo)))

-- ---- what is behind one step is in order

same_places : (o : Ordering) → is_eq o ≡ true → (p : Ordering) → is_gt (ordering_then o p) ≡ false → is_gt p ≡ false
same_places Less e p h = cc
same_places Equal e p h = h
same_places Greater e p h = cc

-- two steps that pass are one
both_pass : (key : Key) (s t : Step) → passes key s ≡ true → passes key t ≡ true → is_eq (step_order s t) ≡ true
both_pass (Name n) (step.Name a) (step.Name b) p q = is_eq-slice_cmp a b ∙ (bytes_eq-Decides a b).1 ((bytes_eq-Decides a n.now).0 p ∙ sym ((bytes_eq-Decides b n.now).0 q))
both_pass (Name n) (step.Name a) (step.Index j) p q = cc
both_pass (Name n) (step.Index i) t p q = cc
both_pass (Place k) (step.Name a) t p q = cc
both_pass (Place k) (step.Index i) (step.Name b) p q = cc
both_pass (Place k) (step.Index i) (step.Index j) p q = ap is_eq (sym (nat_cmp_is i j Equal ((Decides-eqb i k).0 p ∙ sym ((Decides-eqb j k).0 q))))

module _ {A : Type 0} (key : Key) (s : Step) (steps : List Step) (here : passes key s ≡ true) where
  later_one : (b : Bool) (t : Step) (rest : List Step) (v : A) → passes key t ≡ b → is_gt (path_order (s ∷ steps) (t ∷ rest)) ≡ false
      → (es : List (List Step × A)) → AllByRecursion (λ f. is_gt (path_order steps f.0) ≡ false) es
      → AllByRecursion (λ f. is_gt (path_order steps f.0) ≡ false) (or_rest (cond b (Some (rest, v)) None) es)
  later_one true t rest v p h es others = (same_places (step_order s t) (both_pass key s t here p) (path_order steps rest) h, others)
  later_one false t rest v p h es others = others

  later : (es : List (List Step × A)) → AllByRecursion (λ f. is_gt (path_order (s ∷ steps) f.0) ≡ false) es → AllByRecursion (λ f. is_gt (path_order steps f.0) ≡ false) (below (passes key) es)
  later [] h = tt
  later (([], v) ∷ es) h = later es h.1
  later ((t ∷ rest, v) ∷ es) h = later_one (passes key t) t rest v refl h.0 (below (passes key) es) (later es h.1)

module _ {A : Type 0} (key : Key) where
  first_one : (b : Bool) (s : Step) (steps : List Step) (v : A) (es : List (List Step × A)) → passes key s ≡ b → AllByRecursion (λ f. is_gt (path_order (s ∷ steps) f.0) ≡ false) es
      → AreInOrder (below (passes key) es) → AreInOrder (or_rest (cond b (Some (steps, v)) None) (below (passes key) es))
  first_one true s steps v es p h others = (later key s steps p es h, others)
  first_one false s steps v es p h others = others

  pub order_below : (es : List (List Step × A)) → AreInOrder es → AreInOrder (below (passes key) es)
  order_below [] h = tt
  order_below (([], v) ∷ es) h = order_below es h.1
  order_below ((s ∷ steps, v) ∷ es) h = first_one (passes key s) s steps v es refl h.0 (order_below es h.1)
