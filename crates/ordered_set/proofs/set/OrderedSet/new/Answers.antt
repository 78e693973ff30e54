use Rattle.std.proofs.Common.{◌≡◌, ◌<◌, Bool, true, false, refl, sym, subst}
use Rattle.std.specs.List.{IsAllAdjacentAnswer}
use Rattle.std.specs.List.Sorted.{IsPermutation}
use Rattle.std.specs.Ordering.{is_lt}
use Rattle.std.proofs.lemmas.List.Sorted.{length_permutation}
use Rattle.ordered_set.proofs.SetLaws.{strictly_sorted, repeated, no_repeat, some_there}
use Rattle.ordered_set.proofs.set.OrderedSet.new.Goals as goal

pub returns-then-not-is_ascending-clause-duplicate : goal.returns-then-not-is_ascending-clause-duplicate
returns-then-not-is_ascending-clause-duplicate g c =
    let sorted = c.sort_unstable.new.self.items in
    let same : IsPermutation c.args.elements sorted = subst (λ xs. IsPermutation xs sorted) c.from-sorted.ensures c.sort_unstable.ensures.permutation in
    let answer : IsAllAdjacentAnswer (λ x y b. b ≡ is_lt (g.T.Ord.cmp x y)) sorted false =
    subst (λ xs. IsAllAdjacentAnswer (λ x y b. b ≡ is_lt (g.T.Ord.cmp x y)) xs false) c.deref.ensures.value (subst (λ b. IsAllAdjacentAnswer (λ x y b. b ≡ is_lt (g.T.Ord.cmp x y)) c.deref.result.now b) c.if-not-is_ascending.true c.is_ascending.ensures) in
    (λ _. repeated g.met.T.Ord.total c.args.elements sorted same c.sort_unstable.ensures.sorted answer, λ _. refl)

pub returns-clause-duplicate : goal.returns-clause-duplicate
returns-clause-duplicate g c =
    let sorted = c.sort_unstable.new.self.items in
    let same : IsPermutation c.args.elements sorted = subst (λ xs. IsPermutation xs sorted) c.from-sorted.ensures c.sort_unstable.ensures.permutation in
    let answer : IsAllAdjacentAnswer (λ x y b. b ≡ is_lt (g.T.Ord.cmp x y)) sorted true =
    subst (λ xs. IsAllAdjacentAnswer (λ x y b. b ≡ is_lt (g.T.Ord.cmp x y)) xs true) c.deref.ensures.value (subst (λ b. IsAllAdjacentAnswer (λ x y b. b ≡ is_lt (g.T.Ord.cmp x y)) c.deref.result.now b) c.if-not-is_ascending.false c.is_ascending.ensures) in
    let up = strictly_sorted g.met.T.Ord.total sorted answer in
    (λ e. cc, λ twice. absurd (no_repeat g.met.T.Ord.total c.args.elements sorted same up twice))

pub returns-clause-ok : goal.returns-clause-ok
returns-clause-ok g c =
    let sorted = c.sort_unstable.new.self.items in
    let same : IsPermutation c.args.elements sorted = subst (λ xs. IsPermutation xs sorted) c.from-sorted.ensures c.sort_unstable.ensures.permutation in
    let answer : IsAllAdjacentAnswer (λ x y b. b ≡ is_lt (g.T.Ord.cmp x y)) sorted true =
    subst (λ xs. IsAllAdjacentAnswer (λ x y b. b ≡ is_lt (g.T.Ord.cmp x y)) xs true) c.deref.ensures.value (subst (λ b. IsAllAdjacentAnswer (λ x y b. b ≡ is_lt (g.T.Ord.cmp x y)) c.deref.result.now b) c.if-not-is_ascending.false c.is_ascending.ensures) in
    record {
      same_elements = rw c.from.ensures same;
      in_order = rw c.from.ensures (strictly_sorted g.met.T.Ord.total sorted answer);
    }

not_both : (b : Bool) → b ≡ true → b ≡ false → ⊥
not_both b p q = cc

pub invariant_of-result : goal.invariant_of-result
invariant_of-result g c =
    let sorted = c.sort_unstable.new.self.items in
    let answer : IsAllAdjacentAnswer (λ x y b. b ≡ is_lt (g.T.Ord.cmp x y)) sorted true =
    subst (λ xs. IsAllAdjacentAnswer (λ x y b. b ≡ is_lt (g.T.Ord.cmp x y)) xs true) c.deref.ensures.value (subst (λ b. IsAllAdjacentAnswer (λ x y b. b ≡ is_lt (g.T.Ord.cmp x y)) c.deref.result.now b) c.if-not-is_ascending.false c.is_ascending.ensures) in
    let same : IsPermutation c.args.elements sorted = subst (λ xs. IsPermutation xs sorted) c.from-sorted.ensures c.sort_unstable.ensures.permutation in
    let some = some_there c.args.elements (λ none. not_both c.is_empty.result (c.is_empty.ensures.1 none) c.if-is_empty.false) in
    rw c.from.ensures (subst (λ n. 0 < n) (sym (length_permutation c.args.elements sorted same)) some, strictly_sorted g.met.T.Ord.total sorted answer)
