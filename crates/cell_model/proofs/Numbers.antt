-- Numbers of global indexes: which are there, and what a change of a table leaves of them.
use Rattle.std.specs.Prelude.{nat_eq, nat_le, ◌⊎◌, if◌then◌else◌}
use Rattle.std.specs.List.{list_any, list_all, zip}
use Rattle.std.specs.List.Sorted.{IsStrictlyIncreasing}
use Rattle.std.proofs.Common.{◌≡◌, ℕ, zero, suc, ◌+◌, ◌<◌, ◌≤◌, max, Bool, true, false, ◌&&◌, ◌||◌, List, [], ◌∷◌, ◌++◌, map, filter, None, Some, is_some, refl, sym, ap, subst, ◌∙◌, inl, inr, get_or, unwrap_or, arith}
use Rattle.std.proofs.lemmas.Bool.{cond-true, cond-false, and_parts, or_left, or_right, eqb-true, leb-true}
use Rattle.table_schema.specs.declared.index.GlobalIndex.{GlobalIndex}
use Rattle.cell_model.specs.Catalogs.{ascend_from, index_at, greatest_of}

abbrev pub Numbered : Type 0
Numbered = List (ℕ × GlobalIndex)

-- the numbers of numbered indexes
abbrev pub numbers_of : Numbered → List ℕ
numbers_of entries = map (λ entry. entry.0) entries

-- what stands in `Some`
pub some_parts : {X : Type 0} (x y : X) → Some x ≡ Some y → x ≡ y
some_parts x y e = ap (λ o. unwrap_or o x) e

-- a number is among these
abbrev pub is_among : ℕ → List ℕ → Bool
is_among number numbers = list_any (λ other. nat_eq other number) numbers

-- ---- numbers that ascend

-- the numbers of a front ascend as all do
pub fronts_ascend : (least : ℕ) (ns : List ℕ) (gs : List GlobalIndex) → ascend_from least ns ≡ true → ascend_from least (numbers_of (zip ns gs)) ≡ true
fronts_ascend least [] gs h = refl
fronts_ascend least (n ∷ ns) [] h = refl
fronts_ascend least (n ∷ ns) (g ∷ gs) h =
    let p = and_parts (nat_le least n) (ascend_from (n + 1) ns) h in
    ap (λ b. b && ascend_from (n + 1) (numbers_of (zip ns gs))) p.0 ∙ fronts_ascend (n + 1) ns gs p.1

pub increasing : (least : ℕ) (ns : List ℕ) → ascend_from least ns ≡ true → IsStrictlyIncreasing ns
increasing least [] h k within = absurd (omega arith)
increasing least (n ∷ []) h k within = absurd (omega arith)
increasing least (n ∷ (m ∷ ns)) h zero within =
    let p = and_parts (nat_le least n) (ascend_from (n + 1) (m ∷ ns)) h in
    let q = and_parts (nat_le (n + 1) m) (ascend_from (m + 1) ns) p.1 in
    let below : n + 1 ≤ m = leb-true (n + 1) m q.0 in
    omega arith
increasing least (n ∷ (m ∷ ns)) h (suc k) within =
    let p = and_parts (nat_le least n) (ascend_from (n + 1) (m ∷ ns)) h in
    let rest = increasing (n + 1) (m ∷ ns) p.1 k (omega arith) in
    let e : suc k + 1 ≡ suc (k + 1) = omega arith in
    subst (λ z. get_or (m ∷ ns) k 0 < get_or (n ∷ (m ∷ ns)) z 0) (sym e) rest

-- numbers that ascend from a number on have none below it
pub none_below : (least : ℕ) (ns : List ℕ) (g : ℕ) → ascend_from least ns ≡ true → is_among g ns ≡ true → least ≤ g
none_below least [] g h there = absurd (cc)
none_below least (n ∷ ns) g h there =
    let p = and_parts (nat_le least n) (ascend_from (n + 1) ns) h in
    let low : least ≤ n = leb-true least n p.0 in
    go low (none_below (n + 1) ns g p.1) (nat_eq n g) refl there
  where
    go : least ≤ n → (is_among g ns ≡ true → n + 1 ≤ g) → (b : Bool) → nat_eq n g ≡ b → (b || is_among g ns) ≡ true → least ≤ g
    go low more true e t = let same : n ≡ g = eqb-true n g e in omega arith
    go low more false e t = let above = more t in omega arith

-- ---- indexes by their numbers

-- an index is found exactly where its number is there
pub found_among : (g : ℕ) (es : Numbered) → is_some (index_at g es) ≡ is_among g (numbers_of es)
found_among g [] = refl
found_among g (e ∷ es) = go (nat_eq e.0 g) (found_among g es)
  where
    go : (b : Bool) → is_some (index_at g es) ≡ is_among g (numbers_of es) → is_some (if b then Some e.1 else index_at g es) ≡ (b || is_among g (numbers_of es))
    go true rest = refl
    go false rest = rest

-- what is found in a front is found in the whole, where what is behind has another number
pub found_in_front : (g : ℕ) (es : Numbered) (m : ℕ) (x : GlobalIndex) → nat_eq m g ≡ false → index_at g (es ++ (m, x) ∷ []) ≡ index_at g es
found_in_front g [] m x apart = cond-false (nat_eq m g) (Some x) None apart
found_in_front g (e ∷ es) m x apart = ap (λ found. if nat_eq e.0 g then Some e.1 else found) (found_in_front g es m x apart)

-- a number of a list with one more is among the list, or is that one
pub among_more : (g : ℕ) (ns : List ℕ) (m : ℕ) → is_among g (ns ++ m ∷ []) ≡ true → (is_among g ns ≡ true) ⊎ (m ≡ g)
among_more g [] m h = go (nat_eq m g) refl h
  where
    go : (b : Bool) → nat_eq m g ≡ b → (b || false) ≡ true → (false ≡ true) ⊎ (m ≡ g)
    go true e t = inr (eqb-true m g e)
    go false e t = absurd (cc)
among_more g (n ∷ ns) m h = go (nat_eq n g) h (among_more g ns m)
  where
    go : (b : Bool) → (b || is_among g (ns ++ m ∷ [])) ≡ true → (is_among g (ns ++ m ∷ []) ≡ true → (is_among g ns ≡ true) ⊎ (m ≡ g))
        → ((b || is_among g ns) ≡ true) ⊎ (m ≡ g)
    go true t rest = inl refl
    go false t rest = rest t

module _ (passes : ℕ × GlobalIndex → Bool) where
  -- a number that is there after some were dropped was there before
  pub among_filtered : (g : ℕ) (es : Numbered) → is_among g (numbers_of (filter passes es)) ≡ true → is_among g (numbers_of es) ≡ true
  among_filtered g [] h = h
  among_filtered g (e ∷ es) h = go (passes e) h (among_filtered g es)
    where
      more : (b x y : Bool) → (b || x) ≡ true → (x ≡ true → y ≡ true) → (b || y) ≡ true
      more true x y t rest = refl
      more false x y t rest = rest t

      go : (p : Bool) → is_among g (numbers_of (if p then e ∷ filter passes es else filter passes es)) ≡ true
          → (is_among g (numbers_of (filter passes es)) ≡ true → is_among g (numbers_of es) ≡ true) → (nat_eq e.0 g || is_among g (numbers_of es)) ≡ true
      go true t rest = more (nat_eq e.0 g) (is_among g (numbers_of (filter passes es))) (is_among g (numbers_of es)) t rest
      go false t rest = or_right (nat_eq e.0 g) (is_among g (numbers_of es)) (rest t)

  -- of ascending numbers one that is there after some were dropped has the index that it had
  pub found_filtered : (least g : ℕ) (es : Numbered) → ascend_from least (numbers_of es) ≡ true → is_among g (numbers_of (filter passes es)) ≡ true
      → index_at g (filter passes es) ≡ index_at g es
  found_filtered least g [] h there = refl
  found_filtered least g (e ∷ es) h there =
      let p = and_parts (nat_le least e.0) (ascend_from (e.0 + 1) (numbers_of es)) h in
      go (passes e) (nat_eq e.0 g) refl there (found_filtered (e.0 + 1) g es p.1)
      (λ t. none_below (e.0 + 1) (numbers_of es) g p.1 (among_filtered g es t))
    where
      go : (p b : Bool) → nat_eq e.0 g ≡ b → is_among g (numbers_of (if p then e ∷ filter passes es else filter passes es)) ≡ true
          → (is_among g (numbers_of (filter passes es)) ≡ true → index_at g (filter passes es) ≡ index_at g es)
          → (is_among g (numbers_of (filter passes es)) ≡ true → e.0 + 1 ≤ g)
          → index_at g (if p then e ∷ filter passes es else filter passes es) ≡ (if b then Some e.1 else index_at g es)
      go true true is t rest above = cond-true (nat_eq e.0 g) (Some e.1) _ is
      go true false is t rest above =
          cond-false (nat_eq e.0 g) (Some e.1) _ is ∙ rest (sym (ap (λ c. c || is_among g (numbers_of (filter passes es))) is) ∙ t)
      go false true is t rest above = let same : e.0 ≡ g = eqb-true e.0 g is in let over = above t in absurd (omega arith)
      go false false is t rest above = rest t

-- ---- numbers and indexes side by side

-- a list of numbers, cut to those that have an index, has the indexes as before
pub zipped_again : (ns : List ℕ) (gs : List GlobalIndex) → zip (numbers_of (zip ns gs)) gs ≡ zip ns gs
zipped_again [] gs = refl
zipped_again (n ∷ ns) [] = refl
zipped_again (n ∷ ns) (g ∷ gs) = ap (λ es. (n, g) ∷ es) (zipped_again ns gs)

-- with one more number and one more index there is one more pair
pub zipped_more : (ns : List ℕ) (gs : List GlobalIndex) (m : ℕ) (x : GlobalIndex)
    → (y : GlobalIndex) × (zip (numbers_of (zip ns gs) ++ m ∷ []) (gs ++ x ∷ []) ≡ zip ns gs ++ (m, y) ∷ [])
zipped_more [] [] m x = (x, refl)
zipped_more [] (g ∷ gs) m x = (g, refl)
zipped_more (n ∷ ns) [] m x = (x, refl)
zipped_more (n ∷ ns) (g ∷ gs) m x = let rest = zipped_more ns gs m x in (rest.0, ap (λ es. (n, g) ∷ es) rest.1)

-- where some indexes are dropped, their numbers are
pub zipped_filtered : (passes : GlobalIndex → Bool) (ns : List ℕ) (gs : List GlobalIndex)
    → zip (numbers_of (filter (λ e. passes e.1) (zip ns gs))) (filter passes gs) ≡ filter (λ e. passes e.1) (zip ns gs)
zipped_filtered passes [] gs = refl
zipped_filtered passes (n ∷ ns) [] = refl
zipped_filtered passes (n ∷ ns) (g ∷ gs) = go (passes g) (zipped_filtered passes ns gs)
  where
    go : (b : Bool) → zip (numbers_of (filter (λ e. passes e.1) (zip ns gs))) (filter passes gs) ≡ filter (λ e. passes e.1) (zip ns gs)
        → zip (numbers_of (if b then (n, g) ∷ filter (λ e. passes e.1) (zip ns gs) else filter (λ e. passes e.1) (zip ns gs))) (if b then g ∷ filter passes gs else filter passes gs)
        ≡ (if b then (n, g) ∷ filter (λ e. passes e.1) (zip ns gs) else filter (λ e. passes e.1) (zip ns gs))
    go true rest = ap (λ es. (n, g) ∷ es) rest
    go false rest = rest

-- what all indexes have, the one of a number has; what it has, some index has
pub all_found : (P : GlobalIndex → Bool) (g : ℕ) (ns : List ℕ) (gs : List GlobalIndex) (x : GlobalIndex)
    → list_all P gs ≡ true → index_at g (zip ns gs) ≡ Some x → P x ≡ true
all_found P g [] gs x all found = absurd (cc)
all_found P g (n ∷ ns) [] x all found = absurd (cc)
all_found P g (n ∷ ns) (y ∷ gs) x all found =
    let p = and_parts (P y) (list_all P gs) all in
    go (nat_eq n g) found p.0 (all_found P g ns gs x p.1)
  where
    go : (b : Bool) → (if b then Some y else index_at g (zip ns gs)) ≡ Some x → P y ≡ true → (index_at g (zip ns gs) ≡ Some x → P x ≡ true) → P x ≡ true
    go true f here rest = let same : y ≡ x = some_parts y x f in subst (λ z. P z ≡ true) same here
    go false f here rest = rest f

pub any_found : (P : GlobalIndex → Bool) (g : ℕ) (ns : List ℕ) (gs : List GlobalIndex) (x : GlobalIndex)
    → P x ≡ true → index_at g (zip ns gs) ≡ Some x → list_any P gs ≡ true
any_found P g [] gs x so found = absurd (cc)
any_found P g (n ∷ ns) [] x so found = absurd (cc)
any_found P g (n ∷ ns) (y ∷ gs) x so found = go (nat_eq n g) found (any_found P g ns gs x so)
  where
    go : (b : Bool) → (if b then Some y else index_at g (zip ns gs)) ≡ Some x → (index_at g (zip ns gs) ≡ Some x → list_any P gs ≡ true) → (P y || list_any P gs) ≡ true
    go true f rest = let same : y ≡ x = some_parts y x f in or_left (P y) (list_any P gs) (ap P same ∙ so)
    go false f rest = or_right (P y) (list_any P gs) (rest f)

-- ---- greatest numbers

pub greatest_bounds : (g : ℕ) (ns : List ℕ) → is_among g ns ≡ true → g ≤ greatest_of ns
greatest_bounds g [] h = absurd (cc)
greatest_bounds g (n ∷ ns) h = go (nat_eq n g) refl h (greatest_bounds g ns)
  where
    go : (b : Bool) → nat_eq n g ≡ b → (b || is_among g ns) ≡ true → (is_among g ns ≡ true → g ≤ greatest_of ns) → g ≤ max n (greatest_of ns)
    go true e t rest = let same : n ≡ g = eqb-true n g e in omega arith
    go false e t rest = let below = rest t in omega arith

-- a number of a front is one of the whole
pub among_front : (g : ℕ) (ns : List ℕ) (gs : List GlobalIndex) → is_among g (numbers_of (zip ns gs)) ≡ true → is_among g ns ≡ true
among_front g [] gs h = h
among_front g (n ∷ ns) [] h = absurd (cc)
among_front g (n ∷ ns) (x ∷ gs) h = go (nat_eq n g) h (among_front g ns gs)
  where
    go : (b : Bool) → (b || is_among g (numbers_of (zip ns gs))) ≡ true → (is_among g (numbers_of (zip ns gs)) ≡ true → is_among g ns ≡ true) → (b || is_among g ns) ≡ true
    go true t rest = refl
    go false t rest = rest t
