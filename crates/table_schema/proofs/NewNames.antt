-- Names are found new one after another exactly where no two of them are the same.
use Rattle.std.proofs.Common.{◌≡◌, ◌≢◌, ℕ, Bool, true, false, not, ◌&&◌, ◌||◌, List, [], ◌∷◌, ◌++◌, map, refl, ap, sym, subst, ◌∙◌, arith, get_or}
use Rattle.std.specs.Prelude.{All, AllPairs, Any, IsTrue, ◌↔◌}
use Rattle.std.specs.Cmp.Lexicographic.{slice_cmp, nat_list_cmp_total}
use Rattle.std.specs.Ordering.{nat_cmp, is_eq}
use Rattle.std.specs.declared.cmp.Ordering.{Ordering}
use Rattle.std.specs.declared.cmp.Ordering.TheVariants.{Less, Equal, Greater}
use Rattle.std.proofs.lemmas.Cmp.{tied_itself}
use Rattle.std.proofs.lemmas.List.Elements.{All-nil, All-cons, All-head, All-tail}
use Rattle.std.proofs.lemmas.Map.Lookups.{exact_bytes}
use Rattle.table_schema.specs.NameSet.{is_same, has, are_new}
use Rattle.table_schema.proofs.Anys.{mapped_tested}
use Rattle.table_schema.proofs.NameSets.{alike, and_assoc, or_assoc, behind}
use Rattle.table_schema.proofs.Pairs.{pairs_cons, pairs_head, pairs_tail}

-- two names are the same where they have the same bytes
tie : (o : Ordering) → IsTrue (is_eq o) → o ≡ Equal
tie Less e = absurd (cc)
tie Equal e = refl
tie Greater e = absurd (cc)

pub same_names : (n m : List ℕ) → IsTrue (is_same n m) ↔ (m ≡ n)
same_names n m = (
  λ same. sym (exact_bytes n m (tie (slice_cmp nat_cmp n m) same)),
  λ e. subst (λ name. IsTrue (is_same n name)) (sym e) (ap is_eq (tied_itself nat_list_cmp_total n)),
)

not_same : (n m : List ℕ) → is_same n m ≡ false → m ≢ n
not_same n m e same = let passes = (same_names n m).1 same in absurd (cc)

differ : (n m : List ℕ) → m ≢ n → is_same n m ≡ false
differ n m apart = by_test (is_same n m) refl
  where
    by_test : (b : Bool) → is_same n m ≡ b → b ≡ false
    by_test true e = absurd (apart ((same_names n m).0 e))
    by_test false e = refl

module _ {T : Type 0} (name_of : T → List ℕ) where
  -- a name is among the items'
  pub has_name : (n : List ℕ) (items : List T) → IsTrue (has (map name_of items) n) ↔ Any (λ x. name_of x ≡ n) items
  has_name n items = mapped_tested (is_same n) (λ m. m ≡ n) (same_names n) name_of items

  both_true : (a b : Bool) → (a && b) ≡ true → (a ≡ true) × (b ≡ true)
  both_true true b e = (refl, e)
  both_true false b e = absurd (cc)

  neither : (a b : Bool) → (a || b) ≡ false → (a ≡ false) × (b ≡ false)
  neither true b e = absurd (cc)
  neither false b e = (refl, e)

  is_not : (b : Bool) → not b ≡ true → b ≡ false
  is_not true e = absurd (cc)
  is_not false e = refl

  fresh : (x : T) (xs : List T) (seen : List (List ℕ)) → All (λ y. has (name_of x ∷ seen) (name_of y) ≡ false) xs → All (λ y. (name_of x ≢ name_of y) × (has seen (name_of y) ≡ false)) xs
  fresh x xs seen unseen k d within =
      let parts = neither (is_same (name_of (get_or xs k d)) (name_of x)) (has seen (name_of (get_or xs k d))) (unseen k d within) in
      (not_same (name_of (get_or xs k d)) (name_of x) parts.0, parts.1)

  pub new_apart : (items : List T) (seen : List (List ℕ)) → are_new name_of seen items ≡ true → All (λ x. has seen (name_of x) ≡ false) items × AllPairs (λ a b. name_of a ≢ name_of b) items
  new_apart [] seen e = (All-nil (λ x. has seen (name_of x) ≡ false), λ i j d less within. absurd (omega arith))
  new_apart (x ∷ xs) seen e =
      let parts = both_true (not (has seen (name_of x))) (are_new name_of (name_of x ∷ seen) xs) e in
      let rest = new_apart xs (name_of x ∷ seen) parts.1 in (
        All-cons (λ y. has seen (name_of y) ≡ false) x xs (is_not (has seen (name_of x)) parts.0) (λ k d within. (fresh x xs seen rest.0 k d within).1),
        pairs_cons (λ a b. name_of a ≢ name_of b) x xs (λ k d within. (fresh x xs seen rest.0 k d within).0) rest.1,
      )

  pub apart_new : (items : List T) (seen : List (List ℕ)) → All (λ x. has seen (name_of x) ≡ false) items → AllPairs (λ a b. name_of a ≢ name_of b) items → are_new name_of seen items ≡ true
  apart_new [] seen unseen apart = refl
  apart_new (x ∷ xs) seen unseen apart =
      ap (λ b. not b && are_new name_of (name_of x ∷ seen) xs) (All-head (λ y. has seen (name_of y) ≡ false) x xs unseen)
      ∙ apart_new xs (name_of x ∷ seen)
      (λ k d within.
      ap (λ b. b || has seen (name_of (get_or xs k d)))
      (differ (name_of (get_or xs k d)) (name_of x) (pairs_head (λ a b. name_of a ≢ name_of b) x xs apart k d within))
      ∙ All-tail (λ y. has seen (name_of y) ≡ false) x xs unseen k d within)
      (pairs_tail (λ a b. name_of a ≢ name_of b) x xs apart)

  -- what a test of all items has found
  pub found_new : (items : List T) (r : Bool) → r ≡ are_new name_of [] items → IsTrue r ↔ AllPairs (λ a b. name_of a ≢ name_of b) items
  found_new items r is = (
    λ passes. (new_apart items [] (sym is ∙ passes)).1,
    λ apart. is ∙ apart_new items [] (λ k d within. refl) apart,
  )

  -- items in two lists
  pub new_append : (xs ys : List T) (seen more : List (List ℕ)) → ((n : List ℕ) → has more n ≡ (has (map name_of xs) n || has seen n)) → (are_new name_of seen xs && are_new name_of more ys) ≡ are_new name_of seen (xs ++ ys)
  new_append [] ys seen more after = alike name_of ys more seen after
  new_append (x ∷ xs) ys seen more after =
      and_assoc (not (has seen (name_of x))) (are_new name_of (name_of x ∷ seen) xs) (are_new name_of more ys)
      ∙ ap (λ b. not (has seen (name_of x)) && b)
      (new_append xs ys (name_of x ∷ seen) more
      (λ n. after n ∙ sym (or_assoc (is_same n (name_of x)) (has (map name_of xs) n) (has seen n))
      ∙ sym (behind (is_same n (name_of x)) (has (map name_of xs) n) (has seen n))))

  -- what tests of two lists, one after the other, have found
  pub found_distinct : (xs ys : List T) (seen : List (List ℕ)) (first second : Bool) → first ≡ are_new name_of [] xs → ((n : List ℕ) → has seen n ≡ (has (map name_of xs) n || false)) → second ≡ are_new name_of seen ys → IsTrue (first && second) ↔ AllPairs (λ a b. name_of a ≢ name_of b) (xs ++ ys)
  found_distinct xs ys seen first second is_first after is_second =
      found_new (xs ++ ys) (first && second) ((λ i. is_first i && is_second i) ∙ new_append xs ys [] seen after)
