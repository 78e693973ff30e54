-- The order of paths is total, and a list that a sort leaves is in order.
use Rattle.std.proofs.Common.{◌≡◌, ℕ, suc, ◌<◌, ◌≤◌, List, [], ◌∷◌, length, get_or, true, false, Ordering, Less, Equal, Greater, nat_cmp, refl, sym, ap, ◌∙◌, subst, arith}
use Rattle.std.proofs.lemmas.Cmp.{nat_list_cmp_total, nat_cmp_total}
use Rattle.std.proofs.lemmas.List.Sorted.{sorted_far}
use Rattle.std.specs.Cmp.{IsTotalOrder, IsStrictWeakOrder, then_total, on_total}
use Rattle.std.specs.Cmp.Lexicographic.{slice_cmp, lists_total}
use Rattle.std.specs.List.{AllByRecursion}
use Rattle.std.specs.List.Sorted.{IsSortedBy}
use Rattle.std.specs.Ordering.{is_gt, is_lt, on, then_cmp, ordering_then, ordering_reverse}
use Rattle.base_types.specs.declared.path.Step.{Step}
use Rattle.base_types.specs.declared.path.Step.TheVariants.{Name, Index}
use Rattle.path_entries.specs.Entries.{entries_of}
use Rattle.path_entries.specs.Order.{step_order, path_order, is_before, AreInOrder}
use Rattle.path_entries.specs.declared.key.PathEntry.{PathEntry}

-- a step's kind, its name and its place, the latter two empty and zero at the other kind
kind_of : Step → ℕ
kind_of (Name name) = 0
kind_of (Index place) = 1

name_of : Step → List ℕ
name_of (Name name) = name
name_of (Index place) = []

place_of : Step → ℕ
place_of (Name name) = 0
place_of (Index place) = place

parts_order : Step → Step → Ordering
parts_order = then_cmp (on kind_of nat_cmp) (then_cmp (on name_of (slice_cmp nat_cmp)) (on place_of nat_cmp))

then_none : (o : Ordering) → ordering_then o Equal ≡ o
then_none Less = refl
then_none Equal = refl
then_none Greater = refl

by_parts : (s t : Step) → parts_order s t ≡ step_order s t
unfolding parts_order kind_of name_of place_of
by_parts (Name n) (Name m) = then_none (slice_cmp nat_cmp n m)
by_parts (Name n) (Index b) = refl
by_parts (Index a) (Name m) = refl
by_parts (Index a) (Index b) = refl

step_total : IsTotalOrder step_order
unfolding parts_order
step_total =
    subst IsTotalOrder (λ i s t. by_parts s t i)
    (then_total (on_total kind_of nat_cmp_total) (then_total (on_total name_of nat_list_cmp_total) (on_total place_of nat_cmp_total)))

path_total : IsTotalOrder path_order
path_total = lists_total step_total

not_less : (o : Ordering) → is_lt o ≡ true → is_lt (ordering_reverse o) ≡ false
not_less Less e = refl
not_less Equal e = cc
not_less Greater e = cc

module _ {K : Type 0} (R : K → K → Ordering) (total : IsTotalOrder R) where
  one_way : (x y : K) → is_lt (R x y) ≡ true → is_lt (R y x) ≡ false
  one_way x y e = ap is_lt (total.antisymm y x) ∙ not_less (R x y) e

  chained : (x y z : K) (o p : Ordering) → R y x ≡ o → R z y ≡ p → (is_lt (R x y) ≡ false) → (is_lt (R y z) ≡ false) → is_lt (R x z) ≡ false
  chained x y z Less Less a b f g = ap is_lt (total.antisymm x z ∙ ap ordering_reverse (total.trans z y x b a))
  chained x y z Less Equal a b f g = ap is_lt (total.antisymm x z ∙ ap ordering_reverse (total.congr z y x b ∙ a))
  chained x y z Equal p a b f g = ap is_lt (sym (total.congr y x z a)) ∙ g
  chained x y z Greater p a b f g = absurd (let e = total.antisymm x y ∙ ap ordering_reverse a in let h : is_lt (R x y) ≡ true = ap is_lt e in cc)
  chained x y z o Greater a b f g = absurd (let e = total.antisymm y z ∙ ap ordering_reverse b in let h : is_lt (R y z) ≡ true = ap is_lt e in cc)

  weak : IsStrictWeakOrder (λ x y. is_lt (R x y))
  weak = record { one_way = one_way; chain = λ x y z f g. chained x y z (R y x) (R z y) refl refl f g }

pub before_weak : {A : Type 0} → IsStrictWeakOrder (is_before {A = A})
before_weak =
    let w = weak path_order path_total in
    record { one_way = λ e f. w.one_way e.steps.now f.steps.now; chain = λ e f g. w.chain e.steps.now f.steps.now g.steps.now }

above : (o : Ordering) → is_lt (ordering_reverse o) ≡ false → is_gt o ≡ false
above Less e = refl
above Equal e = refl
above Greater e = cc

not_above : (p q : List Step) → is_lt (path_order q p) ≡ false → is_gt (path_order p q) ≡ false
not_above p q e = above (path_order p q) (ap is_lt (sym (path_total.antisymm q p)) ∙ e)

all_behind : {A : Type 0} (p : List Step) (es : List (PathEntry A)) → ((k : ℕ) (d : PathEntry A) → k < length es → is_lt (path_order (get_or es k d).steps.now p) ≡ false)
    → AllByRecursion (λ f. is_gt (path_order p f.0) ≡ false) (entries_of es)
all_behind p [] h = tt
all_behind p (e ∷ es) h = (not_above p e.steps.now (h 0 e (omega arith)), all_behind p es (λ k d within. h (suc k) d (omega arith)))

-- a list whose places ascend is in order
pub ordered : {A : Type 0} (es : List (PathEntry A)) → ((i j : ℕ) (d : PathEntry A) → i ≤ j → j < length es → is_before (get_or es j d) (get_or es i d) ≡ false) → AreInOrder (entries_of es)
ordered [] h = tt
ordered (e ∷ es) h =
    (all_behind e.steps.now es (λ k d within. h 0 (suc k) d (omega arith) (omega arith)), ordered es (λ i j d low high. h (suc i) (suc j) d (omega arith) (omega arith)))

pub sorted_in_order : {A : Type 0} (es : List (PathEntry A)) → IsSortedBy is_before es → AreInOrder (entries_of es)
sorted_in_order es up = ordered es (sorted_far is_before before_weak es up)
