-- Paths of which none begins another, in every order of them.
use Rattle.std.proofs.Common.{◌≡◌, ℕ, ◌+◌, ◌≤◌, List, [], ◌∷◌, ◌++◌, Bool, true, false, cond, ◌&&◌, refl, sym, ap, ◌∙◌, subst, arith}
use Rattle.std.proofs.Math.Logic.{inl, inr}
use Rattle.std.proofs.lemmas.Bool.Decides.{Decides-eqb}
use Rattle.std.proofs.lemmas.List.Sorted.{sum_by-IsPermutation}
use Rattle.std.proofs.lemmas.List.Sums.{sum_by-cons}
use Rattle.std.proofs.lemmas.Slice.Eq.{bytes_eq-Decides}
use Rattle.std.specs.List.{AllByRecursion, count_by}
use Rattle.std.specs.List.Sorted.{IsPermutation}
use Rattle.base_types.specs.declared.path.Step.{Step}
use Rattle.base_types.specs.declared.path.Step.TheVariants.{Name, Index}
use Rattle.item_writes.specs.Apart.{same_step, overlap, AreApart}
use Rattle.item_writes.proofs.Sets.{In, at_in, moved_in}

pub same_step_is : (s t : Step) → same_step s t ≡ true → s ≡ t
same_step_is (Name n) (Name m) e = ap (λ b. Name b) (sym ((bytes_eq-Decides m n).0 e))
same_step_is (Name n) (Index j) e = cc
same_step_is (Index i) (Name m) e = cc
same_step_is (Index i) (Index j) e = ap (λ k. Index k) (sym ((Decides-eqb j i).0 e))

pub same_step_itself : (s : Step) → same_step s s ≡ true
same_step_itself (Name n) = (bytes_eq-Decides n n).1 refl
same_step_itself (Index i) = (Decides-eqb i i).1 refl

pub overlap_itself : (p : List Step) → overlap p p ≡ true
overlap_itself [] = refl
overlap_itself (s ∷ p) = rw (same_step_itself s) (overlap_itself p)

turned_step : (b c : Bool) (s t : Step) (p q : List Step) → same_step s t ≡ b → overlap p q ≡ c → (b && c) ≡ true → (overlap p q ≡ true → overlap q p ≡ true) → (same_step t s && overlap q p) ≡ true
turned_step true true s t p q e f h later = rw (subst (λ u. same_step u s ≡ true) (same_step_is s t e) (same_step_itself s)) (later f)
turned_step true false s t p q e f h later = cc
turned_step false c s t p q e f h later = cc

overlap_turned : (p q : List Step) → overlap p q ≡ true → overlap q p ≡ true
overlap_turned [] [] e = refl
overlap_turned [] (t ∷ q) e = refl
overlap_turned (s ∷ p) [] e = refl
overlap_turned (s ∷ p) (t ∷ q) e = turned_step (same_step s t) (overlap p q) s t p q refl refl e (overlap_turned p q)

only_false : (b : Bool) → (b ≡ true → ⊥) → b ≡ false
only_false true never = absurd (never refl)
only_false false never = refl

pub apart_turned : (p q : List Step) → overlap p q ≡ false → overlap q p ≡ false
apart_turned p q e = only_false (overlap q p) (λ t. let u = overlap_turned q p t in let h : ⊥ = cc in h)

-- ---- how many overlap with a path

counted : (p : List Step → Bool) (x : List Step) (xs : List (List Step)) → count_by p (x ∷ xs) ≡ cond (p x) 1 0 + count_by p xs
counted p x xs = sum_by-cons (λ y. cond (p y) 1 0) x xs

one_or_none : (b : Bool) → ◌≤◌ (cond b 1 0) 1
one_or_none true = omega arith
one_or_none false = omega arith

one : (b : Bool) → b ≡ true → ◌≡◌ {A = ℕ} (cond b 1 0) 1
one true e = refl
one false e = cc

none : (b : Bool) → b ≡ false → ◌≡◌ {A = ℕ} (cond b 1 0) 0
none true e = cc
none false e = refl

none_so : (b : Bool) → ◌≡◌ {A = ℕ} (cond b 1 0) 0 → b ≡ false
none_so true e = let h : ◌≡◌ {A = ℕ} 1 0 = e in absurd (omega (arith, h))
none_so false e = refl

none_of : (p : List Step → Bool) (ys : List (List Step)) → AllByRecursion (λ y. p y ≡ false) ys → count_by p ys ≡ 0
none_of p [] all = refl
none_of p (y ∷ ys) all = omega (arith, counted p y ys, none (p y) all.0, none_of p ys all.1)

all_none : (p : List Step → Bool) (ys : List (List Step)) → count_by p ys ≡ 0 → AllByRecursion (λ y. p y ≡ false) ys
all_none p [] e = tt
all_none p (y ∷ ys) e = (none_so (p y) (omega (arith, counted p y ys, e)), all_none p ys (omega (arith, counted p y ys, e)))

once : (ps : List (List Step)) → AreApart ps → (x : List Step) → In x ps → count_by (overlap x) ps ≤ 1
once [] apart x h = absurd h
once (p ∷ ps) apart x (inl e) =
    let rest : count_by (overlap x) ps ≡ 0 = ap (λ y. count_by (overlap y) ps) e ∙ none_of (overlap p) ps apart.0 in
    omega (arith, counted (overlap x) p ps, one_or_none (overlap x p), rest)
once (p ∷ ps) apart x (inr h) =
    let first = none (overlap x p) (apart_turned p x (at_in (λ q. overlap p q ≡ false) ps apart.0 x h)) in
    omega (arith, counted (overlap x) p ps, first, once ps apart.1 x h)

apart_where_once : (ps : List (List Step)) → ((x : List Step) → In x ps → count_by (overlap x) ps ≤ 1) → AreApart ps
apart_where_once [] h = tt
apart_where_once (p ∷ ps) h = (
  all_none (overlap p) ps (omega (arith, counted (overlap p) p ps, one (overlap p p) (overlap_itself p), h p (inl refl))),
  apart_where_once ps (λ x k. let whole = h x (inr k) in omega (arith, counted (overlap x) p ps, whole)),
)

pub apart_permuted : (ps qs : List (List Step)) → IsPermutation ps qs → AreApart ps → AreApart qs
apart_permuted ps qs moved apart =
    apart_where_once qs (λ x h. subst (λ n. n ≤ 1) (sym (sum_by-IsPermutation (λ y. cond (overlap x y) 1 0) ps qs moved)) (once ps apart x (moved_in ps qs moved x h)))

-- without one of them

all_split : (P : List Step → Type 0) (ps : List (List Step)) (q : List Step) (qs : List (List Step)) → AllByRecursion P (ps ++ q ∷ qs) → AllByRecursion P (ps ++ qs)
all_split P [] q qs all = all.1
all_split P (p ∷ ps) q qs all = (all.0, all_split P ps q qs all.1)

pub apart_without : (ps : List (List Step)) (q : List Step) (qs : List (List Step)) → AreApart (ps ++ q ∷ qs) → AreApart (ps ++ qs)
apart_without [] q qs apart = apart.1
apart_without (p ∷ ps) q qs apart = (all_split (λ x. overlap p x ≡ false) ps q qs apart.0, apart_without ps q qs apart.1)
