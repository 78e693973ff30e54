use Rattle.std.proofs.Common.{subst, ap, ◌∙◌, sym}
use Rattle.std.specs.List.Sorted.{IsStrictlySortedBy}
use Rattle.ordered_set.specs.Sets.{has}
use Rattle.ordered_set.proofs.SetLaws.{searched}
use Rattle.ordered_set.proofs.set.OrderedSet.contains.Goals as goal

pub returns : goal.returns
returns g c =
    let cmp = g.T.Ord.cmp in
    let x = c.args.element.now in
    let xs = c.as_slice.result.now in
    let up = subst (IsStrictlySortedBy cmp) (sym c.as_slice.ensures) c.self.invariant.1 in
    c.is_ok.ensures.value ∙ searched g.met.T.Ord.total xs x up c.binary_search.result c.binary_search.ensures.bound c.binary_search.ensures.position
    ∙ ap (has cmp x) (c.as_slice.ensures ∙ c.self.view_is)
