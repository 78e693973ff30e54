-- What commands keep of catalogs that were made.
use Rattle.std.specs.Prelude.{nat_eq, nat_le, bytes_eq, if◌then◌else◌}
use Rattle.std.specs.List.{AllByRecursion, list_any, filter_map, cons_option, range_with_len, zip}
use Rattle.std.specs.List.Sorted.{IsStrictlySortedBy}
use Rattle.std.specs.Cmp.Lexicographic.{slice_cmp}
use Rattle.std.specs.Ordering.{nat_cmp, is_lt}
use Rattle.std.specs.declared.cmp.Ordering.TheVariants as order
use Rattle.std.proofs.Common.{◌≡◌, ℕ, zero, suc, ◌+◌, ◌<◌, ◌≤◌, max, Bool, true, false, not, List, [], ◌∷◌, ◌++◌, length, filter, Option, None, Some, refl, sym, ap, subst, ◌∙◌, arith}
use Rattle.std.proofs.lemmas.Bool.{cond_both, and_parts, and_from, or_parts, or_from, leb-true, le-leb}
use Rattle.std.proofs.lemmas.List.{length-append}
use Rattle.table_schema.specs.declared.index.GlobalIndex.{GlobalIndex}
use Rattle.table_request.specs.declared.tables.IndexChange.{IndexChange}
use Rattle.table_request.specs.declared.tables.IndexChange.TheVariants.{Make, Remove}
use Rattle.table_model.specs.Catalog.{changed_indexes}
use Rattle.cell_model.specs.declared.catalog.CatalogTable.{CatalogTable}
use Rattle.cell_model.specs.Catalogs.{ascend_from, greatest_of, entered}
use Rattle.cell_model.specs.Commands.{numbers_after, draws_for}
use Rattle.cell_model.specs.KeptCatalogs.{AreApart, names_of}
use Rattle.cell_model.proofs.Numbers.{Numbered, numbers_of}

-- ---- numbers that ascend

lower : (least less : ℕ) (ns : List ℕ) → less ≤ least → ascend_from least ns ≡ true → ascend_from less ns ≡ true
lower least less [] down h = refl
lower least less (n ∷ ns) down h =
    let p = and_parts (nat_le least n) (ascend_from (n + 1) ns) h in
    let low : least ≤ n = leb-true least n p.0 in
    and_from (nat_le less n) (ascend_from (n + 1) ns) (le-leb less n (omega arith)) p.1

pub range_ascends : (least from many : ℕ) → least ≤ from → ascend_from least (range_with_len from many) ≡ true
range_ascends least from zero low = refl
range_ascends least from (suc many) low =
    and_from (nat_le least from) (ascend_from (from + 1) (range_with_len (from + 1) many)) (le-leb least from low) (range_ascends (from + 1) (from + 1) many (omega arith))

pushed : (least : ℕ) (ns : List ℕ) (m : ℕ) → least ≤ m → greatest_of ns < m → ascend_from least ns ≡ true → ascend_from least (ns ++ m ∷ []) ≡ true
pushed least [] m low below h = and_from (nat_le least m) true (le-leb least m low) refl
pushed least (n ∷ ns) m low below h =
    let p = and_parts (nat_le least n) (ascend_from (n + 1) ns) h in
    and_from (nat_le least n) (ascend_from (n + 1) (ns ++ m ∷ [])) p.0 (pushed (n + 1) ns m (omega arith) (omega arith) p.1)

module _ (passes : ℕ × GlobalIndex → Bool) where
  dropped : (least : ℕ) (es : Numbered) → ascend_from least (numbers_of es) ≡ true → ascend_from least (numbers_of (filter passes es)) ≡ true
  dropped least [] h = refl
  dropped least (e ∷ es) h =
      let p = and_parts (nat_le least e.0) (ascend_from (e.0 + 1) (numbers_of es)) h in
      let low : least ≤ e.0 = leb-true least e.0 p.0 in
      go (passes e) p.0 low (dropped (e.0 + 1) es p.1)
    where
      go : (b : Bool) → nat_le least e.0 ≡ true → least ≤ e.0 → ascend_from (e.0 + 1) (numbers_of (filter passes es)) ≡ true
          → ascend_from least (numbers_of (if b then e ∷ filter passes es else filter passes es)) ≡ true
      go true at low rest = and_from (nat_le least e.0) (ascend_from (e.0 + 1) (numbers_of (filter passes es))) at rest
      go false at low rest = lower (e.0 + 1) least (numbers_of (filter passes es)) (omega arith) rest

  lighter : (es : Numbered) → greatest_of (numbers_of (filter passes es)) ≤ greatest_of (numbers_of es)
  lighter [] = omega arith
  lighter (e ∷ es) = go (passes e) (lighter es)
    where
      go : (b : Bool) → greatest_of (numbers_of (filter passes es)) ≤ greatest_of (numbers_of es)
          → greatest_of (numbers_of (if b then e ∷ filter passes es else filter passes es)) ≤ max e.0 (greatest_of (numbers_of es))
      go true rest = omega arith
      go false rest = omega arith

-- ---- numbers beside indexes

pub whole : (ns : List ℕ) (gs : List GlobalIndex) → length ns ≡ length gs → numbers_of (zip ns gs) ≡ ns
whole [] gs e = refl
whole (n ∷ ns) [] e = absurd (omega arith)
whole (n ∷ ns) (g ∷ gs) e = ap (λ l. n ∷ l) (whole ns gs (omega arith))

dropped_alike : (passes : GlobalIndex → Bool) (ns : List ℕ) (gs : List GlobalIndex) → length ns ≡ length gs
    → length (numbers_of (filter (λ e. passes e.1) (zip ns gs))) ≡ length (filter passes gs)
dropped_alike passes [] [] e = refl
dropped_alike passes [] (g ∷ gs) e = absurd (omega arith)
dropped_alike passes (n ∷ ns) [] e = absurd (omega arith)
dropped_alike passes (n ∷ ns) (g ∷ gs) e = go (passes g) (dropped_alike passes ns gs (omega arith))
  where
    go : (b : Bool) → length (numbers_of (filter (λ e. passes e.1) (zip ns gs))) ≡ length (filter passes gs)
        → length (numbers_of (if b then (n, g) ∷ filter (λ e. passes e.1) (zip ns gs) else filter (λ e. passes e.1) (zip ns gs))) ≡ length (if b then g ∷ filter passes gs else filter passes gs)
    go true rest = ap suc rest
    go false rest = rest

pushed_greatest : (ns : List ℕ) (m : ℕ) → greatest_of (ns ++ m ∷ []) ≤ max (greatest_of ns) m
pushed_greatest [] m = omega arith
pushed_greatest (n ∷ ns) m = let rest = pushed_greatest ns m in omega arith

-- after a change of the indexes there is a number for each, the numbers ascend, and only the next one may have come
pub changed_ascend : (change : Option IndexChange) (drawn : ℕ) (ns : List ℕ) (gs : List GlobalIndex) → length ns ≡ length gs → greatest_of ns ≤ drawn
    → ascend_from 0 ns ≡ true → ascend_from 0 (numbers_after change drawn (zip ns gs)) ≡ true
changed_ascend None drawn ns gs e low h = ap (ascend_from 0) (whole ns gs e) ∙ h
changed_ascend (Some (Make x)) drawn ns gs e low h = ap (λ l. ascend_from 0 (l ++ (drawn + 1) ∷ [])) (whole ns gs e) ∙ pushed 0 ns (drawn + 1) (omega arith) (omega arith) h
changed_ascend (Some (Remove name)) drawn ns gs e low h =
    dropped (λ e. not (bytes_eq e.1.name name)) 0 (zip ns gs) (ap (ascend_from 0) (whole ns gs e) ∙ h)

pub changed_paired : (change : Option IndexChange) (drawn : ℕ) (ns : List ℕ) (gs : List GlobalIndex) → length ns ≡ length gs
    → length (numbers_after change drawn (zip ns gs)) ≡ length (changed_indexes change gs)
changed_paired None drawn ns gs e = ap length (whole ns gs e) ∙ e
changed_paired (Some (Make x)) drawn ns gs e =
    let a = length-append (numbers_of (zip ns gs)) ((drawn + 1) ∷ []) in
    let b = length-append gs (x ∷ []) in
    let same : length (numbers_of (zip ns gs)) ≡ length gs = ap length (whole ns gs e) ∙ e in
    a ∙ ap (λ k. k + 1) same ∙ sym b
changed_paired (Some (Remove name)) drawn ns gs e = dropped_alike (λ x. not (bytes_eq x.name name)) ns gs e

pub changed_drawn : (change : Option IndexChange) (drawn : ℕ) (ns : List ℕ) (gs : List GlobalIndex) → length ns ≡ length gs → greatest_of ns ≤ drawn
    → greatest_of (numbers_after change drawn (zip ns gs)) ≤ drawn + draws_for change
changed_drawn None drawn ns gs e low = let same = ap greatest_of (whole ns gs e) in omega (arith, same)
changed_drawn (Some (Make x)) drawn ns gs e low =
    let same : greatest_of (numbers_of (zip ns gs)) ≡ greatest_of ns = ap greatest_of (whole ns gs e) in
    let most = pushed_greatest (numbers_of (zip ns gs)) (drawn + 1) in
    omega arith
changed_drawn (Some (Remove name)) drawn ns gs e low =
    let same : greatest_of (numbers_of (zip ns gs)) ≡ greatest_of ns = ap greatest_of (whole ns gs e) in
    let less = lighter (λ e. not (bytes_eq e.1.name name)) (zip ns gs) in
    omega arith

pub range_drawn : (from many : ℕ) → 1 ≤ from → greatest_of (range_with_len from many) + 1 ≤ from + many
range_drawn from zero some = omega arith
range_drawn from (suc many) some = let rest = range_drawn (from + 1) many (omega arith) in omega arith

-- ---- lists of tables

pub each_weaker : {X : Type 0} {P Q : X → Type 0} → ((x : X) → P x → Q x) → (xs : List X) → AllByRecursion P xs → AllByRecursion Q xs
each_weaker f [] h = tt
each_weaker f (x ∷ xs) h = (f x h.0, each_weaker f xs h.1)

-- what a change of each table keeps
module _ (f : CatalogTable → Option CatalogTable) where
  pub each_left : (P Q : CatalogTable → Type 0) → ((t u : CatalogTable) → P t → f t ≡ Some u → Q u) → (ts : List CatalogTable) → AllByRecursion P ts → AllByRecursion Q (filter_map f ts)
  each_left P Q keeps [] h = tt
  each_left P Q keeps (t ∷ ts) h = go (f t) refl (each_left P Q keeps ts h.1)
    where
      go : (o : Option CatalogTable) → f t ≡ o → AllByRecursion Q (filter_map f ts) → AllByRecursion Q (cons_option o (filter_map f ts))
      go None e rest = rest
      go (Some u) e rest = (keeps t u h.0 e, rest)

  module _ (same : (t u : CatalogTable) → f t ≡ Some u → u.number ≡ t.number) where
    none_left : (n : ℕ) (ts : List CatalogTable) → list_any (λ other. nat_eq other.number n) ts ≡ false → list_any (λ other. nat_eq other.number n) (filter_map f ts) ≡ false
    none_left n [] h = refl
    none_left n (t ∷ ts) h = go (f t) refl (or_parts (nat_eq t.number n) _ h) (none_left n ts)
      where
        go : (o : Option CatalogTable) → f t ≡ o → (nat_eq t.number n ≡ false) × (list_any (λ other. nat_eq other.number n) ts ≡ false)
            → (list_any (λ other. nat_eq other.number n) ts ≡ false → list_any (λ other. nat_eq other.number n) (filter_map f ts) ≡ false)
            → list_any (λ other. nat_eq other.number n) (cons_option o (filter_map f ts)) ≡ false
        go None e p rest = rest p.1
        go (Some u) e p rest = or_from (nat_eq u.number n) _ (ap (λ k. nat_eq k n) (same t u e) ∙ p.0) (rest p.1)

    pub apart_left : (ts : List CatalogTable) → AreApart ts → AreApart (filter_map f ts)
    apart_left [] h = tt
    apart_left (t ∷ ts) h = go (f t) refl (apart_left ts h.1)
      where
        go : (o : Option CatalogTable) → f t ≡ o → AreApart (filter_map f ts) → AreApart (cons_option o (filter_map f ts))
        go None e rest = rest
        go (Some u) e rest = (none_left u.number ts (ap (λ k. list_any (λ other. nat_eq other.number k) ts) (same t u e) ∙ h.0), rest)

  module _ (same : (t u : CatalogTable) → f t ≡ Some u → u.schema.name ≡ t.schema.name) where
    above_left : (name : List ℕ) (ts : List CatalogTable) → AllByRecursion (λ y. slice_cmp nat_cmp name y ≡ order.Less) (names_of ts)
        → AllByRecursion (λ y. slice_cmp nat_cmp name y ≡ order.Less) (names_of (filter_map f ts))
    above_left name [] h = tt
    above_left name (t ∷ ts) h = go (f t) refl (above_left name ts h.1)
      where
        go : (o : Option CatalogTable) → f t ≡ o → AllByRecursion (λ y. slice_cmp nat_cmp name y ≡ order.Less) (names_of (filter_map f ts))
            → AllByRecursion (λ y. slice_cmp nat_cmp name y ≡ order.Less) (names_of (cons_option o (filter_map f ts)))
        go None e rest = rest
        go (Some u) e rest = (ap (slice_cmp nat_cmp name) (same t u e) ∙ h.0, rest)

    pub ordered_left : (ts : List CatalogTable) → IsStrictlySortedBy (slice_cmp nat_cmp) (names_of ts) → IsStrictlySortedBy (slice_cmp nat_cmp) (names_of (filter_map f ts))
    unfolding IsStrictlySortedBy
    ordered_left [] h = tt
    ordered_left (t ∷ ts) h = go (f t) refl (ordered_left ts h.1)
      where
        go : (o : Option CatalogTable) → f t ≡ o → IsStrictlySortedBy (slice_cmp nat_cmp) (names_of (filter_map f ts)) → IsStrictlySortedBy (slice_cmp nat_cmp) (names_of (cons_option o (filter_map f ts)))
        go None e rest = rest
        go (Some u) e rest =
            (above_left u.schema.name ts (subst (λ n. AllByRecursion (λ y. slice_cmp nat_cmp n y ≡ order.Less) (names_of ts)) (sym (same t u e)) h.0), rest)

-- ---- one table more

pub each_entered : (P : CatalogTable → Type 0) (t : CatalogTable) (ts : List CatalogTable) → P t → AllByRecursion P ts → AllByRecursion P (entered t ts)
each_entered P t [] new h = (new, tt)
each_entered P t (u ∷ us) new h =
    cond_both (is_lt (slice_cmp nat_cmp t.schema.name u.schema.name)) (t ∷ u ∷ us) (u ∷ entered t us) (AllByRecursion P) (λ e. (new, h)) (λ e. (h.0, each_entered P t us new h.1))

any_entered : (n : ℕ) (t : CatalogTable) (ts : List CatalogTable) → nat_eq t.number n ≡ false → list_any (λ other. nat_eq other.number n) ts ≡ false
    → list_any (λ other. nat_eq other.number n) (entered t ts) ≡ false
any_entered n t [] new h = or_from (nat_eq t.number n) false new refl
any_entered n t (u ∷ us) new h =
    let p = or_parts (nat_eq u.number n) (list_any (λ other. nat_eq other.number n) us) h in
    cond_both (is_lt (slice_cmp nat_cmp t.schema.name u.schema.name)) (t ∷ u ∷ us) (u ∷ entered t us) (λ l. list_any (λ other. nat_eq other.number n) l ≡ false)
    (λ e. or_from (nat_eq t.number n) _ new h) (λ e. or_from (nat_eq u.number n) _ p.0 (any_entered n t us new p.1))

pub apart_entered : (t : CatalogTable) (ts : List CatalogTable) → AllByRecursion (λ u. nat_eq u.number t.number ≡ false) ts → AllByRecursion (λ u. nat_eq t.number u.number ≡ false) ts
    → AreApart ts → AreApart (entered t ts)
apart_entered t [] a b h = (refl, tt)
apart_entered t (u ∷ us) a b h =
    cond_both (is_lt (slice_cmp nat_cmp t.schema.name u.schema.name)) (t ∷ u ∷ us) (u ∷ entered t us) AreApart
    (λ e. (or_from (nat_eq u.number t.number) _ a.0 (none us a.1), h)) (λ e. (any_entered u.number t us b.0 h.0, apart_entered t us a.1 b.1 h.1))
  where
    none : (us : List CatalogTable) → AllByRecursion (λ u. nat_eq u.number t.number ≡ false) us → list_any (λ other. nat_eq other.number t.number) us ≡ false
    none [] h = refl
    none (u ∷ us) h = or_from (nat_eq u.number t.number) _ h.0 (none us h.1)
