-- What becomes of a list by all writes, place by place.
use Rattle.std.proofs.Common.{◌≡◌, ℕ, zero, suc, ◌+◌, ◌-◌, ◌≤◌, List, [], ◌∷◌, slice_get, nat_lt, nat_le, ◌==◌, Some}
use Rattle.std.proofs.Common.{None, Bool, true, false, cond, ◌&&◌, refl, sym, ap, ◌∙◌, subst, arith}
use Rattle.std.proofs.lemmas.Bool.Decides.{nat_tests}
use Rattle.std.specs.List.{AllByRecursion, count_by}
use Rattle.std.specs.Ordering.{is_gt}
use Rattle.base_types.specs.declared.path.Step.{Step}
use Rattle.base_types.specs.declared.path.Step.TheVariants.{Name, Index}
use Rattle.attr_value.specs.Paths.{element_at, kept_element}
use Rattle.attr_value.specs.Sizes.{count}
use Rattle.attr_value.specs.Tree.{Tree, Trees, no_trees, tree}
use Rattle.path_entries.specs.Entries.{below, is_place, or_rest}
use Rattle.path_entries.specs.Order.{path_order, AreInOrder}
use Rattle.item_writes.specs.Apart.{overlap, AreApart, paths_of}
use Rattle.item_writes.specs.Edits.{appended, element, elements_from, append_one, list_with_all}
use Rattle.item_writes.specs.Extents.{written_here}
use Rattle.item_writes.specs.NewTree.{Written}
use Rattle.item_writes.proofs.Extents.{element_new}
use Rattle.item_writes.proofs.Steps.{apart_at}
use Rattle.item_writes.specs.ListsByPlace.{new_place, appends, appends_before, Stays, ClosesUp, KeepsElements}
use Rattle.item_writes.specs.ListsByPlace.{PutsElements, AppendsInOrder, HasAsMany, KeepsOrder}
use Rattle.item_writes.proofs.Counts.{stays_here, kept_of, kept_is, kept_more, counted}
use Rattle.item_writes.proofs.ListSteps.{ends_here}

-- ---- an element that stays

at_first : (t : Tree) (here : List Written) (rest : Trees) → stays_here here ≡ true
    → element_at 0 (kept_element (element t here) rest) ≡ element t here
at_first t [] rest e = refl
at_first t (([], None) ∷ ws) rest e = cc
at_first t (([], Some v) ∷ ws) rest e = refl
at_first t ((s ∷ p, v) ∷ ws) rest e = refl

pub behind_first : (t : Tree) (here : List Written) (rest : Trees) (n m : ℕ) → m ≡ cond (stays_here here) 1 0 + n
    → element_at m (kept_element (element t here) rest) ≡ element_at n rest
behind_first t [] rest n m e = let same : m ≡ suc n = omega (arith, e) in ap (λ k. element_at k (tree t rest)) same
behind_first t (([], None) ∷ ws) rest n m e = let same : m ≡ n = omega (arith, e) in ap (λ k. element_at k rest) same
behind_first t (([], Some v) ∷ ws) rest n m e =
    let same : m ≡ suc n = omega (arith, e) in ap (λ k. element_at k (tree v rest)) same
behind_first t ((s ∷ p, v) ∷ ws) rest n m e =
    let same : m ≡ suc n = omega (arith, e) in ap (λ k. element_at k (kept_element (element t ((s ∷ p, v) ∷ ws)) rest)) same

-- from a place on, an element that stays stands behind those that stay before it
pub stays_at : (ts : Trees) (place start end : ℕ) (ws : List Written) (old : Tree) → end ≡ start + place
    → element_at place ts ≡ Some old → stays_here (below (is_place end) ws) ≡ true
    → element_at (kept_of place start ws) (elements_from ts start ws) ≡ element old (below (is_place end) ws)
stays_at no_trees place start end ws old e there stays = cc
stays_at (tree t rest) zero start end ws old e there stays =
    let same : end ≡ start = omega (arith, e) in
    let first : t ≡ old = cc in
    let here = subst (λ n. stays_here (below (is_place n) ws) ≡ true) same stays in
    at_first t (below (is_place start) ws) (elements_from rest (suc start) ws) here
    ∙ ap (λ n. element t (below (is_place n) ws)) (sym same)
    ∙ ap (λ u. element u (below (is_place end) ws)) first
stays_at (tree t rest) (suc place) start end ws old e there stays =
    let behind_it = elements_from rest (suc start) ws in
    behind_first t (below (is_place start) ws) behind_it (kept_of place (suc start) ws) (kept_of (suc place) start ws) refl
    ∙ stays_at rest place (suc start) end ws old (omega (arith, e)) there stays

-- ---- which elements stay

stays_one : (b : Bool) (w : Written) (rest : List Written) → (b ≡ true → stays_here (w ∷ []) ≡ true) → stays_here rest ≡ true
    → stays_here (or_rest (cond b (Some w) None) rest) ≡ true
stays_one true ([], None) rest first later = let e : false ≡ true = first refl in cc
stays_one true ([], Some v) rest first later = refl
stays_one true (s ∷ p, v) rest first later = refl
stays_one false w rest first later = later

pub stays_where : (place : ℕ) (ws : List Written) → Stays place ws → stays_here (below (is_place place) ws) ≡ true
stays_where place [] all = refl
stays_where place (([], v) ∷ ws) all = stays_where place ws all.1
stays_where place ((Name name ∷ p, v) ∷ ws) all = stays_where place ws all.1
stays_where place ((Index i ∷ [], None) ∷ ws) all =
    stays_one (i == place) ([], None) (below (is_place place) ws) (λ e. let never : true ≡ false = sym e ∙ all.0 in cc)
    (stays_where place ws all.1)
stays_where place ((Index i ∷ [], Some v) ∷ ws) all =
    stays_one (i == place) ([], Some v) (below (is_place place) ws) (λ e. refl) (stays_where place ws all.1)
stays_where place ((Index i ∷ next ∷ p, v) ∷ ws) all =
    stays_one (i == place) (next ∷ p, v) (below (is_place place) ws) (λ e. refl) (stays_where place ws all.1)

pub stays_open : (ws : List Written) → written_here ws ≡ None → stays_here ws ≡ true
stays_open [] e = refl
stays_open (([], v) ∷ ws) e = cc
stays_open ((s ∷ p, v) ∷ ws) e = refl

pub stays_new : (ws : List Written) (value : Tree) → written_here ws ≡ Some (Some value) → stays_here ws ≡ true
stays_new [] value e = cc
stays_new (([], None) ∷ ws) value e = cc
stays_new (([], Some v) ∷ ws) value e = refl
stays_new ((s ∷ p, v) ∷ ws) value e = cc

-- ---- the laws of the elements

closes_up : (ts : Trees) (ws : List Written) (place : ℕ) (old : Tree) → AreApart (paths_of ws) → element_at place ts ≡ Some old
    → stays_here (below (is_place place) ws) ≡ true
    → element_at (new_place place ws) (list_with_all ts ws) ≡ element old (below (is_place place) ws)
closes_up ts ws place old apart there stays =
    ap (λ n. element_at n (list_with_all ts ws)) (sym (kept_is ws place apart))
    ∙ stays_at ts place 0 place ws old (omega arith) there stays

pub elements_close_up : (ts : Trees) (ws : List Written) → AreApart (paths_of ws) → ClosesUp ts ws
elements_close_up ts ws apart place old there stays = closes_up ts ws place old apart there (stays_where place ws stays)

pub elements_are_kept : (ts : Trees) (ws : List Written) → AreApart (paths_of ws) → KeepsElements ts ws
elements_are_kept ts ws apart place old there none =
    closes_up ts ws place old apart there (ap stays_here none) ∙ ap (element old) none

pub elements_are_put : (ts : Trees) (ws : List Written) → AreApart (paths_of ws) → PutsElements ts ws
elements_are_put ts ws apart place old value k there written =
    let here : written_here (below (is_place place) ws) ≡ Some (Some value) =
    ends_here (Index place) (Some value) ws apart k written in
    closes_up ts ws place old apart there (stays_new (below (is_place place) ws) value here)
    ∙ element_new old (below (is_place place) ws) (Some value) here

pub one_stays : (b : Bool) → b ≡ true → ◌≡◌ {A = ℕ} (cond b 1 0) 1
one_stays true e = refl
one_stays false e = cc

pub order_is_kept : (ws : List Written) → AreApart (paths_of ws) → KeepsOrder ws
order_is_kept ws apart place later above stays =
    let more = later - suc place in
    let split = kept_more ws place (suc more) 0 place later (omega (arith, above)) (omega arith) in
    let one = one_stays (stays_here (below (is_place place) ws)) (stays_where place ws stays) in
    omega (arith, kept_is ws place apart, kept_is ws later apart, split, one)

-- ---- what is put past the end

more_of : (n : ℕ) (start : ℕ) (ws : List Written)
    → kept_of (1 + n) start ws ≡ cond (stays_here (below (is_place start) ws)) 1 0 + kept_of n (suc start) ws
more_of n start ws = let same : 1 + n ≡ suc n = omega arith in ap (λ m. kept_of m start ws) same

-- behind all that stay stands what is put
past_elements : (ts : Trees) (start end : ℕ) (ws : List Written) (j m : ℕ) → end ≡ start + count ts
    → m ≡ kept_of (count ts) start ws + j
    → element_at m (elements_from ts start ws) ≡ element_at j (appended end ws)
past_elements no_trees start end ws j m e f =
    let same : m ≡ j = omega (arith, f) in
    let last : start ≡ end = omega (arith, e) in
    ap (λ n. element_at n (appended start ws)) same ∙ ap (λ n. element_at j (appended n ws)) last
past_elements (tree t rest) start end ws j m e f =
    let n = kept_of (count rest) (suc start) ws + j in
    let more : m ≡ cond (stays_here (below (is_place start) ws)) 1 0 + n = omega (arith, f, more_of (count rest) start ws) in
    behind_first t (below (is_place start) ws) (elements_from rest (suc start) ws) n m more
    ∙ past_elements rest (suc start) end ws j n (omega (arith, e)) refl

-- writes in order: none before the place comes later
not_before : (place j end : ℕ) → is_gt (path_order (Index place ∷ []) (Index j ∷ [])) ≡ false
    → ◌≡◌ {A = ℕ} (cond (nat_le end j && nat_lt j place) 1 0) 0
not_before place j end e = grind (arith, nat_tests)

none_later : (place end : ℕ) (ws : List Written)
    → AllByRecursion (λ (f : Written). is_gt (path_order (Index place ∷ []) f.0) ≡ false) ws
    → count_by (appends_before end place) ws ≡ 0
none_later place end [] all = refl
none_later place end (([], v) ∷ ws) all =
    omega (arith, counted (appends_before end place) ([], v) ws, none_later place end ws all.1)
none_later place end ((Name name ∷ p, v) ∷ ws) all =
    omega (arith, counted (appends_before end place) (Name name ∷ p, v) ws, none_later place end ws all.1)
none_later place end ((Index j ∷ [], None) ∷ ws) all =
    omega (arith, counted (appends_before end place) (Index j ∷ [], None) ws, none_later place end ws all.1)
none_later place end ((Index j ∷ [], Some u) ∷ ws) all =
    let first = counted (appends_before end place) (Index j ∷ [], Some u) ws in
    omega (arith, first, not_before place j end all.0, none_later place end ws all.1)
none_later place end ((Index j ∷ next ∷ p, v) ∷ ws) all =
    omega (arith, counted (appends_before end place) (Index j ∷ next ∷ p, v) ws, none_later place end ws all.1)

-- the first of them comes before the place
before_later : (j place end : ℕ) → is_gt (path_order (Index j ∷ []) (Index place ∷ [])) ≡ false → (place == j) ≡ false
    → ◌≡◌ {A = ℕ} (cond (nat_le end j && nat_lt j place) 1 0) (cond (nat_lt j end) 0 1)
before_later j place end e f = grind (arith, nat_tests)

not_itself : (place end : ℕ) → ◌≡◌ {A = ℕ} (cond (nat_le end place && nat_lt place place) 1 0) 0
not_itself place end = grind (arith, nat_tests)

within : (place end : ℕ) → end ≤ place → nat_lt place end ≡ false
within place end e = grind (arith, nat_tests)

appended_at : (end : ℕ) (ws : List Written) → AreInOrder ws → AreApart (paths_of ws) → (place : ℕ) (value : Tree) (k : ℕ)
    → end ≤ place → slice_get ws k ≡ Some (Index place ∷ [], Some value)
    → element_at (count_by (appends_before end place) ws) (appended end ws) ≡ Some value
appended_at end [] up apart place value k past e = cc
appended_at end (w ∷ ws) up apart place value zero past e =
    let same : w ≡ (Index place ∷ [], Some value) = cc in
    let later : AllByRecursion (λ (f : Written). is_gt (path_order (Index place ∷ []) f.0) ≡ false) ws =
    subst (λ (v : Written). AllByRecursion (λ (f : Written). is_gt (path_order v.0 f.0) ≡ false) ws) same up.0 in
    let first = counted (appends_before end place) (Index place ∷ [], Some value) ws in
    let before : count_by (appends_before end place) ((Index place ∷ [], Some value) ∷ ws) ≡ 0 =
    omega (arith, first, not_itself place end, none_later place end ws later) in
    let rest = appended end ws in
    ap (λ (v : Written). element_at (count_by (appends_before end place) (v ∷ ws)) (append_one end v.0 v.1 rest)) same
    ∙ ap (λ n. element_at n (append_one end (Index place ∷ []) (Some value) rest)) before
    ∙ ap (λ b. element_at 0 (cond b rest (tree value rest))) (within place end past)
appended_at end (w ∷ ws) up apart place value (suc k) past e =
    let this : Written = (Index place ∷ [], Some value) in
    behind_one w (order_at w.0 ws up.0 k this e) (apart_at w.0 ws apart.0 k this e) (count_by (appends_before end place) ws)
    (count_by (appends_before end place) (w ∷ ws)) (counted (appends_before end place) w ws)
    ∙ appended_at end ws up.1 apart.1 place value k past e
  where
    order_at : (p : List Step) (vs : List Written) → AllByRecursion (λ (f : Written). is_gt (path_order p f.0) ≡ false) vs
        → (j : ℕ) (v : Written) → slice_get vs j ≡ Some v → is_gt (path_order p v.0) ≡ false
    order_at p [] all j v f = cc
    order_at p (u ∷ vs) all zero v f =
        let same : u ≡ v = cc in subst (λ (x : Written). is_gt (path_order p x.0) ≡ false) same all.0
    order_at p (u ∷ vs) all (suc j) v f = order_at p vs all.1 j v f

    only : (b : Bool) → (b && true) ≡ false → b ≡ false
    only true f = f
    only false f = f

    past_one : (b : Bool) (u : Tree) (n m : ℕ) → m ≡ cond b 0 1 + n
        → element_at m (cond b (appended end ws) (tree u (appended end ws))) ≡ element_at n (appended end ws)
    past_one true u n m f = let same : m ≡ n = omega (arith, f) in ap (λ i. element_at i (appended end ws)) same
    past_one false u n m f = let same : m ≡ suc n = omega (arith, f) in ap (λ i. element_at i (tree u (appended end ws))) same

    same_at : (n m : ℕ) → m ≡ 0 + n → element_at m (appended end ws) ≡ element_at n (appended end ws)
    same_at n m f = let same : m ≡ n = omega (arith, f) in ap (λ i. element_at i (appended end ws)) same

    behind_one : (v : Written) → is_gt (path_order v.0 (Index place ∷ [])) ≡ false → overlap v.0 (Index place ∷ []) ≡ false
        → (n m : ℕ) → m ≡ cond (appends_before end place v) 1 0 + n
        → element_at m (append_one end v.0 v.1 (appended end ws)) ≡ element_at n (appended end ws)
    behind_one ([], v) g h n m f = same_at n m f
    behind_one (Name name ∷ p, v) g h n m f = same_at n m f
    behind_one (Index j ∷ [], None) g h n m f = same_at n m f
    behind_one (Index j ∷ [], Some u) g h n m f =
        past_one (nat_lt j end) u n m (omega (arith, f, before_later j place end g (only (place == j) h)))
    behind_one (Index j ∷ next ∷ p, v) g h n m f = same_at n m f

pub values_are_appended : (ts : Trees) (ws : List Written) → AreInOrder ws → AreApart (paths_of ws) → AppendsInOrder ts ws
values_are_appended ts ws up apart place value k past written =
    let spot = count_by (appends_before (count ts) place) ws in
    let behind_them = ap (λ n. n + spot) (sym (kept_is ws (count ts) apart)) in
    past_elements ts 0 (count ts) ws spot (new_place (count ts) ws + spot) (omega arith) behind_them
    ∙ appended_at (count ts) ws up apart place value k past written

-- ---- how many there are

count_here : (t : Tree) (here : List Written) (rest : Trees)
    → count (kept_element (element t here) rest) ≡ cond (stays_here here) 1 0 + count rest
count_here t [] rest = omega arith
count_here t (([], None) ∷ ws) rest = omega arith
count_here t (([], Some v) ∷ ws) rest = omega arith
count_here t ((s ∷ p, v) ∷ ws) rest = omega arith

count_from : (ts : Trees) (start end : ℕ) (ws : List Written) → end ≡ start + count ts
    → count (elements_from ts start ws) ≡ kept_of (count ts) start ws + count (appended end ws)
count_from no_trees start end ws e =
    let last : start ≡ end = omega (arith, e) in
    let same = ap (λ n. count (appended n ws)) last in omega (arith, same)
count_from (tree t rest) start end ws e =
    let first = count_here t (below (is_place start) ws) (elements_from rest (suc start) ws) in
    omega (arith, first, more_of (count rest) start ws, count_from rest (suc start) end ws (omega (arith, e)))

one_past : (j end : ℕ) (u : Tree) (rest : Trees)
    → count (cond (nat_lt j end) rest (tree u rest)) ≡ cond (nat_le end j) 1 0 + count rest
one_past j end u rest = omega (arith, either (nat_lt j end), turned j end)
  where
    either : (b : Bool) → count (cond b rest (tree u rest)) ≡ cond b 0 1 + count rest
    either true = omega arith
    either false = omega arith

    turned : (i n : ℕ) → ◌≡◌ {A = ℕ} (cond (nat_lt i n) 0 1) (cond (nat_le n i) 1 0)
    turned i n = grind (arith, nat_tests)

count_appended : (end : ℕ) (ws : List Written) → count (appended end ws) ≡ count_by (appends end) ws
count_appended end [] = refl
count_appended end (([], v) ∷ ws) = omega (arith, counted (appends end) ([], v) ws, count_appended end ws)
count_appended end ((Name name ∷ p, v) ∷ ws) = omega (arith, counted (appends end) (Name name ∷ p, v) ws, count_appended end ws)
count_appended end ((Index j ∷ [], None) ∷ ws) =
    omega (arith, counted (appends end) (Index j ∷ [], None) ws, count_appended end ws)
count_appended end ((Index j ∷ [], Some u) ∷ ws) =
    omega (arith, counted (appends end) (Index j ∷ [], Some u) ws, count_appended end ws, one_past j end u (appended end ws))
count_appended end ((Index j ∷ next ∷ p, v) ∷ ws) =
    omega (arith, counted (appends end) (Index j ∷ next ∷ p, v) ws, count_appended end ws)

pub as_many : (ts : Trees) (ws : List Written) → AreApart (paths_of ws) → HasAsMany ts ws
as_many ts ws apart =
    omega (arith, count_from ts 0 (count ts) ws (omega arith), kept_is ws (count ts) apart, count_appended (count ts) ws)
