-- Walks over entries, each with what is found for it.
use Rattle.std.specs.Prelude.{◌++◌, ℕ, suc, ◌<◌, length, filter, reverse, is_some, option_map, slice_get}
use Rattle.std.specs.List.{AllByRecursion}
use Rattle.std.specs.List.Sorted.{IsStrictlySortedBy}
use Rattle.std.specs.Map.{keys_of}
use Rattle.std.specs.Ordering.{is_lt}
use Rattle.std.specs.declared.cmp.Ordering.{Ordering}
use Rattle.std.proofs.Common.{◌≡◌, Bool, true, false, cond, List, [], ◌∷◌, Option, None, Some, refl, sym, ap, ◌∙◌, subst, append-nil}
use Rattle.std.proofs.lemmas.Bool.{cond-true, cond-false}
use Rattle.paging.specs.Rows.{in_direction, walk_order, rows_after}
use Rattle.paging.proofs.Ordered.{reverse_cons}
use Rattle.table_rows.specs.Found.{entry_if, found_for, AllFound}

-- ---- lists

pub all_filter : {X : Type 0} (P : X → Type 0) (t : X → Bool) (xs : List X) → AllByRecursion P xs → AllByRecursion P (filter t xs)
all_filter P t [] all = tt
all_filter P t (x ∷ xs) all = go P t x xs (t x) all.0 (all_filter P t xs all.1)
  where
    go : {X : Type 0} (P : X → Type 0) (t : X → Bool) (x : X) (xs : List X) (b : Bool) → P x → AllByRecursion P (filter t xs)
        → AllByRecursion P (cond b (x ∷ filter t xs) (filter t xs))
    go P t x xs true p h = (p, h)
    go P t x xs false p h = h

all_append : {X : Type 0} (P : X → Type 0) (xs ys : List X) → AllByRecursion P xs → AllByRecursion P ys → AllByRecursion P (xs ++ ys)
all_append P [] ys all more = more
all_append P (x ∷ xs) ys all more = (all.0, all_append P xs ys all.1 more)

all_reverse : {X : Type 0} (P : X → Type 0) (xs : List X) → AllByRecursion P xs → AllByRecursion P (reverse xs)
all_reverse P [] all = tt
all_reverse P (x ∷ xs) all =
    subst (AllByRecursion P) (sym (reverse_cons x xs)) (all_append P (reverse xs) (x ∷ []) (all_reverse P xs all.1) (all.0, tt))

-- ---- what is found

module _ {K X Y : Type 0} (look : K × X → Option Y) where
  found_append : (es fs : List (K × X)) → found_for look (es ++ fs) ≡ found_for look es ++ found_for look fs
  found_append [] fs = refl
  found_append (e ∷ es) fs = go e.0 (found_for look (es ++ fs)) (found_for look es) (found_for look fs) (look e) (found_append es fs)
    where
      go : (key : K) (all front back : List (K × Y)) (there : Option Y) → all ≡ front ++ back
          → entry_if key there all ≡ entry_if key there front ++ back
      go key all front back None h = h
      go key all front back (Some y) h = ap (λ l. (key, y) ∷ l) h

  found_reverse : (es : List (K × X)) → found_for look (reverse es) ≡ reverse (found_for look es)
  found_reverse [] = refl
  found_reverse (e ∷ es) =
      ap (found_for look) (reverse_cons e es) ∙ found_append (reverse es) (e ∷ [])
      ∙ ap (λ l. l ++ found_for look (e ∷ [])) (found_reverse es)
      ∙ go e.0 (found_for look es) (look e)
    where
      go : (key : K) (fs : List (K × Y)) (there : Option Y) → reverse fs ++ entry_if key there [] ≡ reverse (entry_if key there fs)
      go key fs None = append-nil (reverse fs)
      go key fs (Some y) = sym (reverse_cons (key, y) fs)

  found_filter : (t : K → Bool) (es : List (K × X)) → found_for look (filter (λ e. t e.0) es) ≡ filter (λ e. t e.0) (found_for look es)
  found_filter t [] = refl
  found_filter t (e ∷ es) =
      open_if (t e.0) e (filter (λ f. t f.0) es)
      ∙ go t e.0 (found_for look (filter (λ f. t f.0) es)) (found_for look es) (t e.0) (look e) refl (found_filter t es)
    where
      open_if : (b : Bool) (f : K × X) (fs : List (K × X))
          → found_for look (cond b (f ∷ fs) fs) ≡ cond b (entry_if f.0 (look f) (found_for look fs)) (found_for look fs)
      open_if true f fs = refl
      open_if false f fs = refl

      go : (t : K → Bool) (key : K) (some all : List (K × Y)) (b : Bool) (there : Option Y) → t key ≡ b → some ≡ filter (λ e. t e.0) all
          → cond b (entry_if key there some) some ≡ filter (λ e. t e.0) (entry_if key there all)
      go t key some all true None e h = h
      go t key some all false None e h = h
      go t key some all true (Some y) e h =
          ap (λ l. (key, y) ∷ l) h ∙ sym (cond-true (t key) ((key, y) ∷ filter (λ e. t e.0) all) (filter (λ e. t e.0) all) e)
      go t key some all false (Some y) e h =
          h ∙ sym (cond-false (t key) ((key, y) ∷ filter (λ e. t e.0) all) (filter (λ e. t e.0) all) e)

  found_direction : (forward : Bool) (es : List (K × X)) → found_for look (in_direction forward es) ≡ in_direction forward (found_for look es)
  found_direction true es = refl
  found_direction false es = found_reverse es

  all_direction : (forward : Bool) (es : List (K × X)) → AllFound look es → AllFound look (in_direction forward es)
  all_direction true es all = all
  all_direction false es all = all_reverse (λ e. is_some (look e) ≡ true) es all

  -- what is found for one entry
  abbrev pub entry_found : Option (K × X) → Option (K × Y)
  entry_found None = None
  entry_found (Some e) = option_map (λ y. (e.0, y)) (look e)

  head_found : (es : List (K × X)) → AllFound look es → slice_get (found_for look es) 0 ≡ entry_found (slice_get es 0)
  head_found [] all = refl
  head_found (e ∷ es) all = go e.0 (found_for look es) (look e) all.0
    where
      go : (key : K) (fs : List (K × Y)) (there : Option Y) → is_some there ≡ true → slice_get (entry_if key there fs) 0 ≡ option_map (λ y. (key, y)) there
      go key fs None h = absurd (cc)
      go key fs (Some y) h = refl

  keys_found : (es : List (K × X)) → AllFound look es → keys_of (found_for look es) ≡ keys_of es
  keys_found [] all = refl
  keys_found (e ∷ es) all = go e.0 (found_for look es) (keys_of es) (look e) all.0 (keys_found es all.1)
    where
      go : (key : K) (fs : List (K × Y)) (keys : List K) (there : Option Y) → is_some there ≡ true → keys_of fs ≡ keys
          → keys_of (entry_if key there fs) ≡ key ∷ keys
      go key fs keys None h e = absurd (cc)
      go key fs keys (Some y) h e = ap (λ l. key ∷ l) e

  length_found : (es : List (K × X)) → AllFound look es → length (found_for look es) ≡ length es
  length_found [] all = refl
  length_found (e ∷ es) all = go e.0 (found_for look es) (length es) (look e) all.0 (length_found es all.1)
    where
      go : (key : K) (fs : List (K × Y)) (n : ℕ) (there : Option Y) → is_some there ≡ true → length fs ≡ n
          → length (entry_if key there fs) ≡ suc n
      go key fs n None h e = absurd (cc)
      go key fs n (Some y) h e = ap (λ (m : ℕ). suc m) e

  module _ (cmp : K → K → Ordering) where
    found_after : (forward : Bool) (after : Option K) (es : List (K × X))
        → found_for look (rows_after cmp forward after es) ≡ rows_after cmp forward after (found_for look es)
    found_after forward None es = found_direction forward es
    found_after forward (Some key) es =
        found_filter (λ k. is_lt (walk_order cmp forward key k)) (in_direction forward es)
        ∙ ap (filter (λ e. is_lt (walk_order cmp forward key e.0))) (found_direction forward es)

    all_after : (forward : Bool) (after : Option K) (es : List (K × X)) → AllFound look es → AllFound look (rows_after cmp forward after es)
    all_after forward None es all = all_direction forward es all
    all_after forward (Some key) es all =
        all_filter (λ e. is_some (look e) ≡ true) (λ e. is_lt (walk_order cmp forward key e.0)) (in_direction forward es)
        (all_direction forward es all)

    -- ---- a walk over what is found

    module _ (es : List (K × X)) (shown : List (K × Y)) (is : found_for look es ≡ shown) (all : AllFound look es) where
      -- the first that is found is found for the first entry
      pub walk_first : (forward : Bool) (after : Option K)
          → entry_found (slice_get (rows_after cmp forward after es) 0) ≡ slice_get (rows_after cmp forward after shown) 0
      walk_first forward after =
          sym (head_found (rows_after cmp forward after es) (all_after forward after es all))
          ∙ ap (λ (fs : List (K × Y)). slice_get fs 0) (found_after forward after es)
          ∙ ap (λ (fs : List (K × Y)). slice_get (rows_after cmp forward after fs) 0) is

      pub walk_ordered : IsStrictlySortedBy cmp (keys_of es) → IsStrictlySortedBy cmp (keys_of shown)
      walk_ordered up =
          subst (λ (fs : List (K × Y)). IsStrictlySortedBy cmp (keys_of fs)) is
          (subst (IsStrictlySortedBy cmp) (sym (keys_found es all)) up)

      pub walk_few : length es < 18446744073709551616 → length shown < 18446744073709551616
      walk_few less =
          subst (λ (n : ℕ). n < 18446744073709551616) (sym (length_found es all) ∙ ap (λ (fs : List (K × Y)). length fs) is) less
