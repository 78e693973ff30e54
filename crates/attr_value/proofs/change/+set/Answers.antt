use Rattle.std.proofs.Common.{◌∷◌, Some, None, sym, ap, ◌∙◌}
use Rattle.std.proofs.lemmas.Result.{on_ok_weaker, on_err_weaker, IfErr-weaker}
use Rattle.base_types.specs.declared.path.Step.TheVariants.{Name, Index}
use Rattle.attr_value.specs.Paths.{with_in}
use Rattle.attr_value.specs.Tree.{map, list}
use Rattle.attr_value.specs.View.{tree_of, trees_of, attributes_of}
use Rattle.attr_value.proofs.PathLaws.{with_attribute, with_no_attribute, with_element, with_no_element, bad_path_along, attribute_same, element_same}
use Rattle.attr_value.proofs.Views.{value_at_found, put-set_value, element_found, put_at-set}
use Rattle.attr_value.proofs.change.+set.Goals as goal

pub set_attribute-returns-clause-ok : goal.set_attribute-returns-clause-ok
set_attribute-returns-clause-ok t c =
    let name = c.args.name.now in
    let es = c.item.inside.attributes.entries in
    let v = c.in-Some-get_mut.parent.now in
    let w = c.set_below.new.parent in
    let value = tree_of c.args.value in
    let here = value_at_found name es (Some v) c.in-Some-get_mut.ensures.value in
    let written = ap attributes_of (c.get_mut.follows.holds w).0 ∙ put-set_value name w v es c.get_mut.ensures.ordered (sym c.in-Some-get_mut.ensures.value) in
    on_ok_weaker c.set_below.result (λ e.
    ap (λ x. with_in (Name name ∷ c.args.rest.now) (Some (map x)) value) (sym c.item.view_is)
    ∙ with_attribute name c.args.rest.now (attributes_of es) (Some (tree_of v)) (tree_of w) value _ here (ap (λ s. with_in s (Some (tree_of v)) value) c.in-Some.ensures.cases.0 ∙ e) (sym written)) c.set_below.ensures.ok

pub set_attribute-returns-clause-bad_path : goal.set_attribute-returns-clause-bad_path
set_attribute-returns-clause-bad_path t c =
    let name = c.args.name.now in
    let inside = attributes_of c.item.inside.attributes.entries in
    let v = c.in-Some-get_mut.parent.now in
    let value = tree_of c.args.value in
    let here = value_at_found name c.item.inside.attributes.entries (Some v) c.in-Some-get_mut.ensures.value in
    let same = ap (λ s. with_in s (Some (tree_of v)) value) c.in-Some.ensures.cases.0 in
    let both = with_no_attribute name c.args.rest.now inside (Some (tree_of v)) value here in
    let seen = ap (λ x. with_in (Name name ∷ c.args.rest.now) (Some (map x)) value) c.item.view_is in
    IfErr-weaker c.set_below.result _ _ (bad_path_along (λ e. sym seen ∙ both.0 (same ∙ e), λ e. sym same ∙ both.1 (seen ∙ e))) c.set_below.ensures.bad_path

pub set_attribute-returns-clause-unchanged : goal.set_attribute-returns-clause-unchanged
set_attribute-returns-clause-unchanged t c =
    let w = c.set_below.new.parent in
    on_err_weaker c.set_below.result (λ e. ap attributes_of (c.get_mut.follows.holds w).0 ∙ attribute_same c.args.name.now w c.in-Some-get_mut.parent.now c.item.inside.attributes.entries e (sym c.in-Some-get_mut.ensures.value) ∙ c.item.view_is) c.set_below.ensures.unchanged

pub set_attribute-returns-in_default-get_mut-clause-bad_path : goal.set_attribute-returns-in_default-get_mut-clause-bad_path
set_attribute-returns-in_default-get_mut-clause-bad_path t c =
    let value = tree_of c.args.value in
    let here = value_at_found c.args.name.now c.item.inside.attributes.entries None c.in_default-get_mut.ensures.value in
    ap (λ x. with_in (Name c.args.name.now ∷ c.args.rest.now) (Some (map x)) value) (sym c.item.view_is)
    ∙ (with_no_attribute c.args.name.now c.args.rest.now _ None value here).0 (ap (λ s. with_in s None value) c.in-Some.ensures.cases.0)

pub set_element-returns-clause-ok : goal.set_element-returns-clause-ok
set_element-returns-clause-ok t c =
    let place = c.args.place in
    let vs = c.list.inside.values in
    let v = c.in-Some-get_mut.parent.now in
    let w = c.set_below.new.parent in
    let value = tree_of c.args.value in
    let here = element_found place vs (Some v) c.in-Some-get_mut.ensures.value in
    let written = put_at-set place w v vs (sym c.in-Some-get_mut.ensures.value) in
    on_ok_weaker c.set_below.result (λ e.
    ap (λ x. with_in (Index place ∷ c.args.rest.now) (Some (list x)) value) (sym c.list.view_is)
    ∙ with_element place c.args.rest.now (trees_of vs) (Some (tree_of v)) (tree_of w) value _ here (ap (λ s. with_in s (Some (tree_of v)) value) c.in-Some.ensures.cases.0 ∙ e) (sym written)) c.set_below.ensures.ok

pub set_element-returns-clause-bad_path : goal.set_element-returns-clause-bad_path
set_element-returns-clause-bad_path t c =
    let place = c.args.place in
    let vs = c.list.inside.values in
    let v = c.in-Some-get_mut.parent.now in
    let value = tree_of c.args.value in
    let here = element_found place vs (Some v) c.in-Some-get_mut.ensures.value in
    let same = ap (λ s. with_in s (Some (tree_of v)) value) c.in-Some.ensures.cases.0 in
    let both = with_no_element place c.args.rest.now (trees_of vs) (Some (tree_of v)) value here in
    let seen = ap (λ x. with_in (Index place ∷ c.args.rest.now) (Some (list x)) value) c.list.view_is in
    IfErr-weaker c.set_below.result _ _ (bad_path_along (λ e. sym seen ∙ both.0 (same ∙ e), λ e. sym same ∙ both.1 (seen ∙ e))) c.set_below.ensures.bad_path

pub set_element-returns-clause-unchanged : goal.set_element-returns-clause-unchanged
set_element-returns-clause-unchanged t c =
    let v = c.in-Some-get_mut.parent.now in
    on_err_weaker c.set_below.result (λ e. element_same c.args.place c.set_below.new.parent v e c.list.inside.values (sym c.in-Some-get_mut.ensures.value) ∙ c.list.view_is) c.set_below.ensures.unchanged

pub set_element-returns-in_default-get_mut-clause-bad_path : goal.set_element-returns-in_default-get_mut-clause-bad_path
set_element-returns-in_default-get_mut-clause-bad_path t c =
    let vs = c.list.inside.values in
    let value = tree_of c.args.value in
    let here = element_found c.args.place vs None c.in_default-get_mut.ensures.value in
    ap (λ x. with_in (Index c.args.place ∷ c.args.rest.now) (Some (list x)) value) (sym c.list.view_is)
    ∙ (with_no_element c.args.place c.args.rest.now (trees_of vs) None value here).0 (ap (λ s. with_in s None value) c.in-Some.ensures.cases.0)
