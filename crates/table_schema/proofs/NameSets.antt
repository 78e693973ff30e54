-- What a set of names has after one more was put in.
use Rattle.std.proofs.Common.{◌≡◌, ℕ, Bool, true, false, ◌||◌, ◌&&◌, not, List, [], ◌∷◌, map, refl, ap, sym, subst, ◌∙◌, IsTrue}
use Rattle.std.specs.Borrow.{Bor}
use Rattle.std.specs.BTreeSet.{insert_key}
use Rattle.std.specs.Cmp.Lexicographic.{slice_cmp}
use Rattle.std.specs.List.{list_any}
use Rattle.std.specs.Ordering.{nat_cmp, match_ordering, is_eq}
use Rattle.std.specs.declared.cmp.Ordering.{Ordering}
use Rattle.std.specs.declared.cmp.Ordering.TheVariants.{Less, Equal, Greater}
use Rattle.std.proofs.lemmas.Map.Lookups.{exact_bytes}
use Rattle.table_schema.specs.NameSet.{is_same, has, are_new}

abbrev pub by_text : Bor (List ℕ) → Bor (List ℕ) → Ordering
by_text a b = slice_cmp nat_cmp a.now b.now

abbrev pub texts : List (Bor (List ℕ)) → List (List ℕ)
texts names = map (λ name. name.now) names

twice : (k r : Bool) → (k || r) ≡ (k || (k || r))
twice true r = refl
twice false r = refl

pub behind : (k x r : Bool) → (x || (k || r)) ≡ (k || (x || r))
behind true true r = refl
behind true false r = refl
behind false true r = refl
behind false false r = refl

pub and_assoc : (a b c : Bool) → ((a && b) && c) ≡ (a && (b && c))
and_assoc true b c = refl
and_assoc false b c = refl

pub or_assoc : (a b c : Bool) → (a || (b || c)) ≡ ((a || b) || c)
or_assoc true b c = refl
or_assoc false b c = refl

module _ (key : Bor (List ℕ)) (n : List ℕ) where
  step : (x : Bor (List ℕ)) (xs more : List (Bor (List ℕ))) (o : Ordering) → by_text key x ≡ o → has (texts more) n ≡ (is_same n key.now || has (texts xs) n) → has (texts (match_ordering o (key ∷ x ∷ xs) (x ∷ xs) (x ∷ more))) n ≡ (is_same n key.now || has (texts (x ∷ xs)) n)
  step x xs more Less e rest = refl
  step x xs more Equal e rest =
      let same = exact_bytes key.now x.now e in
      subst (λ name. has (texts (x ∷ xs)) n ≡ (is_same n name || has (texts (x ∷ xs)) n)) (sym same)
      (twice (is_same n x.now) (has (texts xs) n))
  step x xs more Greater e rest =
      ap (λ r. is_same n x.now || r) rest ∙ behind (is_same n key.now) (is_same n x.now) (has (texts xs) n)

  pub inserted : (xs : List (Bor (List ℕ))) → has (texts (insert_key by_text xs key)) n ≡ (is_same n key.now || has (texts xs) n)
  inserted [] = refl
  inserted (x ∷ xs) = step x xs (insert_key by_text xs key) (by_text key x) refl (inserted xs)

-- a name is looked for among texts that are lent
pub lent : (xs : List (Bor (List ℕ))) (n : List ℕ) → list_any (λ x. is_same n x.now) xs ≡ has (texts xs) n
lent [] n = refl
lent (x ∷ xs) n = ap (λ r. is_same n x.now || r) (lent xs n)

-- sets that have the same names find the same items new
module _ {T : Type 0} (name_of : T → List ℕ) where
  pub alike : (items : List T) (a b : List (List ℕ)) → ((n : List ℕ) → has a n ≡ has b n) → are_new name_of a items ≡ are_new name_of b items
  alike [] a b same = refl
  alike (x ∷ xs) a b same = λ i.
      not (same (name_of x) i) && alike xs (name_of x ∷ a) (name_of x ∷ b) (λ n j. is_same n (name_of x) || same n j) i

  -- one item after another
  pub one_more : (rest others : List T) (first : T) (all new : Bool) (seen more : List (List ℕ)) (whole : Bool) → rest ≡ first ∷ others → new ≡ not (has seen (name_of first)) → ((n : List ℕ) → has more n ≡ (is_same n (name_of first) || has seen n)) → (all && are_new name_of seen rest) ≡ whole → ((all && new) && are_new name_of more others) ≡ whole
  one_more rest others first all new seen more whole is found after before =
      ap (λ x. (all && x) && are_new name_of more others) found
      ∙ ap (λ x. (all && not (has seen (name_of first))) && x) (alike others more (name_of first ∷ seen) after)
      ∙ and_assoc all (not (has seen (name_of first))) (are_new name_of (name_of first ∷ seen) others)
      ∙ ap (λ items. all && are_new name_of seen items) (sym is) ∙ before

  pub one_more_name : (rest others : List T) (first : T) (seen more : List (List ℕ)) (n : List ℕ) (whole : Bool) → rest ≡ first ∷ others → has more n ≡ (is_same n (name_of first) || has seen n) → (has (map name_of rest) n || has seen n) ≡ whole → (has (map name_of others) n || has more n) ≡ whole
  one_more_name rest others first seen more n whole is after before =
      ap (λ x. has (map name_of others) n || x) after
      ∙ behind (is_same n (name_of first)) (has (map name_of others) n) (has seen n)
      ∙ or_assoc (is_same n (name_of first)) (has (map name_of others) n) (has seen n)
      ∙ ap (λ items. has (map name_of items) n || has seen n) (sym is) ∙ before

-- a set is within another where each of its keys is found there
module _ (xs ys : List (Bor (List ℕ))) where
  abbrev at : Bor (List ℕ) → List ℕ → Bor (List ℕ)
  at key n = record key { now = n }

  pub found_lent : (zs : List (Bor (List ℕ))) (n : List ℕ) → IsTrue (has (texts zs) n) → Bor (List ℕ)
  found_lent [] n passes = absurd (cc)
  found_lent (z ∷ zs) n passes = z

  pub within : ((q : Bor (List ℕ)) → IsTrue (list_any (λ x. is_eq (by_text q x)) xs) → IsTrue (list_any (λ y. is_eq (by_text q y)) ys)) → (n : List ℕ) → IsTrue (has (texts xs) n) → IsTrue (has (texts ys) n)
  within each n passes =
      let q = at (found_lent xs n passes) n in
      sym (lent ys n) ∙ each q (lent xs n ∙ passes)

  pub each_within : ((n : List ℕ) → IsTrue (has (texts xs) n) → IsTrue (has (texts ys) n)) → (q : Bor (List ℕ)) → IsTrue (list_any (λ x. is_eq (by_text q x)) xs) → IsTrue (list_any (λ y. is_eq (by_text q y)) ys)
  each_within all q passes = lent ys q.now ∙ all q.now (sym (lent xs q.now) ∙ passes)
