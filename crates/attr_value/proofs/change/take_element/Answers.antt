use Rattle.std.proofs.Common.{[], Some, is_some, sym, ap, ◌∙◌, arith}
use Rattle.attr_value.specs.Paths.{without_in, element_at, change_at}
use Rattle.attr_value.specs.View.{trees_of}
use Rattle.attr_value.proofs.Views.{element_found, element_past, change_at-absent, change_at-remove}
use Rattle.attr_value.proofs.change.take_element.Goals as goal

pub returns-then-len-place-clause-found : goal.returns-then-len-place-clause-found
returns-then-len-place-clause-found c =
    let vs = c.list.inside.values in
    ap is_some (sym (element_past c.args.place vs (omega arith)) ∙ ap (element_at c.args.place) c.list.view_is)

pub returns-then-len-place-clause-without : goal.returns-then-len-place-clause-without
returns-then-len-place-clause-without c =
    let vs = c.list.inside.values in
    let same = sym (change_at-absent c.args.place (without_in []) (trees_of vs) (element_past c.args.place vs (omega arith))) in
    sym c.list.view_is ∙ same ∙ ap (change_at c.args.place (without_in [])) c.list.view_is

pub returns-clause-found : goal.returns-clause-found
returns-clause-found c =
    ap is_some (sym (element_found c.args.place c.list.inside.values (Some c.remove.result) (sym c.remove.ensures.item)) ∙ ap (element_at c.args.place) c.list.view_is)

pub returns-clause-without : goal.returns-clause-without
returns-clause-without c =
    ap trees_of c.remove.ensures.rest ∙ change_at-remove c.list.inside.values c.args.place (omega arith) ∙ ap (change_at c.args.place (without_in [])) c.list.view_is
