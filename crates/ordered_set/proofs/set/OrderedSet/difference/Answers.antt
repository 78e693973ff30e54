use Rattle.std.proofs.Common.{◌≡◌, Bool, true, false, filter, not, rules, sym, ap, ◌∙◌, subst}
use Rattle.std.specs.List.Sorted.{IsStrictlySortedBy}
use Rattle.std.proofs.lemmas.Fn.{filter_same}
use Rattle.std.proofs.lemmas.List.Kept.{IsStrictlySortedBy-filter}
use Rattle.ordered_set.specs.Sets.{has}
use Rattle.ordered_set.proofs.SetLaws.{some_there}
use Rattle.ordered_set.proofs.set.OrderedSet.difference.Goals as goal

not_both : (b : Bool) → b ≡ true → b ≡ false → ⊥
not_both b p q = cc

pub returns-then-is_empty : goal.returns-then-is_empty
returns-then-is_empty g c =
    let kept = filter_same _ (λ x. not (has g.T.Ord.cmp x c.args.other.now)) _ (λ x b f' k. search rules) _ _ c.retain.ensures.filtered in
    sym (c.is_empty.ensures.0 c.if-is_empty.true) ∙ c.from-elements.ensures ∙ kept ∙ ap (filter (λ x. not (has g.T.Ord.cmp x c.args.other.now))) (c.from-left.ensures ∙ c.into_elements.ensures.value)

pub invariant_of-result : goal.invariant_of-result
invariant_of-result g c =
    let kept = filter_same _ (λ x. not (has g.T.Ord.cmp x c.args.other.now)) _ (λ x b f' k. search rules) _ _ c.retain.ensures.filtered in
    let before = subst (IsStrictlySortedBy g.T.Ord.cmp) (sym c.from-left.ensures) c.into_elements.ensures.in_order in
    let up = subst (IsStrictlySortedBy g.T.Ord.cmp) (sym kept) (IsStrictlySortedBy-filter g.T.Ord.cmp (λ x. not (has g.T.Ord.cmp x c.args.other.now)) _ before) in
    (some_there c.from-elements.result (λ none. not_both c.is_empty.result (c.is_empty.ensures.1 none) c.if-is_empty.false), subst (IsStrictlySortedBy g.T.Ord.cmp) (sym c.from-elements.ensures) up)

pub returns : goal.returns
returns g c =
    let kept = filter_same _ (λ x. not (has g.T.Ord.cmp x c.args.other.now)) _ (λ x b f' k. search rules) _ _ c.retain.ensures.filtered in
    c.from-elements.ensures ∙ kept ∙ ap (filter (λ x. not (has g.T.Ord.cmp x c.args.other.now))) (c.from-left.ensures ∙ c.into_elements.ensures.value)
