use Rattle.std.proofs.Common.{◌≡◌, [], Some, None, is_some, option_and_then, sym, ap, ◌∙◌}
use Rattle.attr_value.specs.Paths.{found_in, value_at, element_at, without_in, change, change_at}
use Rattle.attr_value.specs.View.{tree_of, trees_of, attributes_of}
use Rattle.attr_value.proofs.Views.{value_at-lookup, value_at_found, is_some_here, is_some_tree, no_steps, element_found, change-remove_entry, change-set_value, change-absent, change_at-set, change_at-absent}
use Rattle.attr_value.proofs.change.+remove.Goals as goal

pub remove_attribute-returns-in_default-clause-found : goal.remove_attribute-returns-in_default-clause-found
remove_attribute-returns-in_default-clause-found t c =
    let inside = attributes_of c.item.inside.attributes.entries in
    let none : c.args.rest.now ≡ [] = no_steps _ c.in_default.ensures.cases in
    (c.is_some.ensures ∙ ap is_some c.remove.ensures.value ∙ is_some_here _ ∙ ap (λ o. is_some (option_and_then (found_in []) o)) (value_at-lookup c.args.name.now c.item.inside.attributes.entries) ∙ ap (λ steps. is_some (option_and_then (found_in steps) (value_at c.args.name.now inside))) (sym none))
    ∙ ap (λ x. is_some (option_and_then (found_in c.args.rest.now) (value_at c.args.name.now x))) c.item.view_is

pub remove_attribute-returns-in_default-clause-without : goal.remove_attribute-returns-in_default-clause-without
remove_attribute-returns-in_default-clause-without t c =
    let none : c.args.rest.now ≡ [] = no_steps _ c.in_default.ensures.cases in
    (ap attributes_of c.remove.ensures.entries ∙ change-remove_entry c.args.name.now c.item.inside.attributes.entries ∙ ap (λ steps. change c.args.name.now (without_in steps) (attributes_of c.item.inside.attributes.entries)) (sym none))
    ∙ ap (change c.args.name.now (without_in c.args.rest.now)) c.item.view_is

pub remove_attribute-returns-clause-found : goal.remove_attribute-returns-clause-found
remove_attribute-returns-clause-found t c =
    let there = value_at_found c.args.name.now c.item.inside.attributes.entries _ c.in-Some-get_mut.ensures.value in
    rw (← c.item.view_is, c.in-Some.ensures.cases.0, there) c.remove_below.ensures.found

pub remove_attribute-returns-clause-without : goal.remove_attribute-returns-clause-without
remove_attribute-returns-clause-without t c =
    let w = c.remove_below.new.value in
    let v = c.in-Some-get_mut.value.now in
    let kept : Some (tree_of w) ≡ without_in c.args.rest.now (tree_of v) = ap Some c.remove_below.ensures.without ∙ ap (λ s. without_in s (tree_of v)) (sym c.in-Some.ensures.cases.0) in
    (ap attributes_of (c.get_mut.follows.holds w).0 ∙ change-set_value c.args.name.now (without_in c.args.rest.now) w v kept c.item.inside.attributes.entries (sym c.in-Some-get_mut.ensures.value))
    ∙ ap (change c.args.name.now (without_in c.args.rest.now)) c.item.view_is

pub remove_attribute-returns-in_default-get_mut-clause-found : goal.remove_attribute-returns-in_default-get_mut-clause-found
remove_attribute-returns-in_default-get_mut-clause-found t c =
    let there = value_at_found c.args.name.now c.item.inside.attributes.entries None c.in_default-get_mut.ensures.value in
    (ap (λ o. is_some (option_and_then (found_in c.args.rest.now) o)) (sym there))
    ∙ ap (λ x. is_some (option_and_then (found_in c.args.rest.now) (value_at c.args.name.now x))) c.item.view_is

pub remove_attribute-returns-in_default-get_mut-clause-without : goal.remove_attribute-returns-in_default-get_mut-clause-without
remove_attribute-returns-in_default-get_mut-clause-without t c =
    let there = value_at_found c.args.name.now c.item.inside.attributes.entries None c.in_default-get_mut.ensures.value in
    (ap (λ m. attributes_of m.entries) c.get_mut.follows.holds-at-none ∙ sym (change-absent c.args.name.now (without_in c.args.rest.now) (attributes_of c.item.inside.attributes.entries) there))
    ∙ ap (change c.args.name.now (without_in c.args.rest.now)) c.item.view_is

pub remove_element-returns-in_default-clause-found : goal.remove_element-returns-in_default-clause-found
remove_element-returns-in_default-clause-found t c =
    let there = element_at c.args.place c.args.list.now in
    let none : c.args.rest.now ≡ [] = no_steps _ c.in_default.ensures.cases in
    c.take_element.ensures.found ∙ is_some_tree there ∙ ap (λ steps. is_some (option_and_then (found_in steps) there)) (sym none)

pub remove_element-returns-in_default-clause-without : goal.remove_element-returns-in_default-clause-without
remove_element-returns-in_default-clause-without t c =
    let none : c.args.rest.now ≡ [] = no_steps _ c.in_default.ensures.cases in
    c.take_element.ensures.without ∙ ap (λ steps. change_at c.args.place (without_in steps) c.args.list.now) (sym none)

pub remove_element-returns-clause-found : goal.remove_element-returns-clause-found
remove_element-returns-clause-found t c =
    let here = element_found c.args.place c.list.inside.values (Some c.in-Some-get_mut.value.now) c.in-Some-get_mut.ensures.value in
    rw (← c.list.view_is, c.in-Some.ensures.cases.0, here) c.remove_below.ensures.found

pub remove_element-returns-clause-without : goal.remove_element-returns-clause-without
remove_element-returns-clause-without t c =
    let w = c.remove_below.new.value in
    let v = c.in-Some-get_mut.value.now in
    let kept : Some (tree_of w) ≡ without_in c.args.rest.now (tree_of v) = ap Some c.remove_below.ensures.without ∙ ap (λ s. without_in s (tree_of v)) (sym c.in-Some.ensures.cases.0) in
    (change_at-set c.args.place (without_in c.args.rest.now) w v kept c.list.inside.values (sym c.in-Some-get_mut.ensures.value))
    ∙ ap (change_at c.args.place (without_in c.args.rest.now)) c.list.view_is

pub remove_element-returns-in_default-get_mut-clause-found : goal.remove_element-returns-in_default-get_mut-clause-found
remove_element-returns-in_default-get_mut-clause-found t c =
    let here = element_found c.args.place c.list.inside.values None c.in_default-get_mut.ensures.value in
    (ap (λ o. is_some (option_and_then (found_in c.args.rest.now) o)) (sym here))
    ∙ ap (λ x. is_some (option_and_then (found_in c.args.rest.now) (element_at c.args.place x))) c.list.view_is

pub remove_element-returns-in_default-get_mut-clause-without : goal.remove_element-returns-in_default-get_mut-clause-without
remove_element-returns-in_default-get_mut-clause-without t c =
    let here = element_found c.args.place c.list.inside.values None c.in_default-get_mut.ensures.value in
    (sym (change_at-absent c.args.place (without_in c.args.rest.now) (trees_of c.list.inside.values) here))
    ∙ ap (change_at c.args.place (without_in c.args.rest.now)) c.list.view_is
