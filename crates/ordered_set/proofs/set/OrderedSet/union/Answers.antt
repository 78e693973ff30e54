use Rattle.std.proofs.Common.{◌≡◌, ◌<◌, ◌++◌, length, filter, not, ap, ◌∙◌, subst, arith, length-append}
use Rattle.std.specs.List.Sorted.{IsPermutation, IsStrictlySortedBy}
use Rattle.ordered_set.specs.Sets.{has}
use Rattle.std.proofs.lemmas.List.Sorted.{length_permutation}
use Rattle.ordered_set.proofs.SetLaws.{union_is_set}
use Rattle.ordered_set.proofs.set.OrderedSet.union.Goals as goal

pub invariant_of-result : goal.invariant_of-result
invariant_of-result g c =
    let cmp = g.T.Ord.cmp in
    let both = c.sort.new.self.items in
    let s = c.args.self in
    let first : c.from-both.result.items ≡ s = c.from-both.ensures ∙ c.into_elements.ensures.value in
    let second : c.from.result.items ≡ filter (λ x. not (has cmp x s)) c.args.other = c.from.ensures ∙ c.into_elements-2.ensures.value ∙ c.in-Some.ensures in
    let old = c.in_ok-append.ensures.items ∙ ap (λ xs. xs ++ c.from.result.items) first ∙ ap (λ xs. s ++ xs) second in
    let moved = subst (λ xs. IsPermutation xs both) old c.sort.ensures.permutation in
    let up = subst (IsStrictlySortedBy cmp) c.into_elements.ensures.value c.into_elements.ensures.in_order in
    let others = subst (IsStrictlySortedBy cmp) (c.into_elements-2.ensures.value ∙ c.in-Some.ensures) c.into_elements-2.ensures.in_order in
    let some : 0 < length both = omega (arith, length_permutation _ both moved, length-append s (filter (λ x. not (has cmp x s)) c.args.other), ap length c.into_elements.ensures.value, c.into_elements.ensures.some) in
    rw c.from-2.ensures (some, union_is_set g.met.T.Ord.total s c.args.other both up others moved c.in_ok-sort.ensures.sorted)

pub returns : goal.returns
returns g c =
    let cmp = g.T.Ord.cmp in
    let both = c.sort.new.self.items in
    let s = c.args.self in
    let first : c.from-both.result.items ≡ s = c.from-both.ensures ∙ c.into_elements.ensures.value in
    let second : c.from.result.items ≡ filter (λ x. not (has cmp x s)) c.args.other = c.from.ensures ∙ c.into_elements-2.ensures.value ∙ c.in-Some.ensures in
    let old = c.in_ok-append.ensures.items ∙ ap (λ xs. xs ++ c.from.result.items) first ∙ ap (λ xs. s ++ xs) second in
    let moved = subst (λ xs. IsPermutation xs both) old c.sort.ensures.permutation in
    let up = subst (IsStrictlySortedBy cmp) c.into_elements.ensures.value c.into_elements.ensures.in_order in
    let others = subst (IsStrictlySortedBy cmp) (c.into_elements-2.ensures.value ∙ c.in-Some.ensures) c.into_elements-2.ensures.in_order in
    rw c.from-2.ensures (record { same_elements = moved; in_order = union_is_set g.met.T.Ord.total s c.args.other both up others moved c.in_ok-sort.ensures.sorted })
