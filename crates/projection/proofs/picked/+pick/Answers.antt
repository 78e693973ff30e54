use Rattle.std.proofs.Common.{◌≡◌, Bool, true, false, ◌==◌, List, length, Some, [], ◌∷◌, ◌++◌, drop, option_map, sym, ap, ◌∙◌, subst, append_assoc, cond, arith}
use Rattle.std.proofs.lemmas.List.{at_drop_all}
use Rattle.std.proofs.lemmas.Result.{IfOk-weaker}
use Rattle.base_types.specs.declared.path.Step.{Step}
use Rattle.attr_value.specs.Tree.{weight, trees_weight, no_trees, AreInOrder as AreNamesInOrder}
use Rattle.attr_value.specs.View.{tree_of, trees_of, attributes_of}
use Rattle.path_entries.specs.Entries.{below, is_name, entries_of}
use Rattle.path_entries.specs.Order.{AreInOrder}
use Rattle.projection.specs.Picked.{picked, picked_from, picked_inside, picked_list}
use Rattle.attr_value.specs.Parts.{put_some, onto}
use Rattle.attr_value.proofs.Views.{Entry}
use Rattle.attr_value.proofs.PartLaws.{onto_none, attribute_weight, element_weight}
use Rattle.projection.proofs.Kept.{picked_last, nothing_inside, leads_on, no_items}
use Rattle.projection.proofs.picked.+pick.Goals as goal

not_both : (b : Bool) → b ≡ true → b ≡ false → ⊥
not_both b p q = cc

pub item_of-loop-name-preserved : goal.item_of-loop-name-preserved
item_of-loop-name-preserved t c =
    let l = c.loop-name in
    let done = l.invariant.0 in
    let e : Entry = (c.in-Some.name.now, c.in-Some.value.now) in
    let left = c.next.new.self in
    let ps = entries_of c.args.paths.now in
    let deeper = below (is_name e.0) ps in
    let all : done ++ l.name-iterator ≡ done ++ e ∷ left = ap (λ es. done ++ es) c.in-Some.ensures.steps in
    let whole : attributes_of (done ++ e ∷ left) ≡ c.args.item.now = ap attributes_of (sym all) ∙ l.invariant.1 in
    let up = subst AreNamesInOrder (sym whole) c.iter-name-items.ensures.in_order in
    let lent : entries_of c.as_slice.result.now ≡ deeper = ap entries_of c.as_slice.ensures.value ∙ c.in_ok-deeper.ensures.behind in
    let stays : option_map tree_of c.in_ok-stays.stays ≡ picked (tree_of e.1) deeper = c.in_ok-stays.ensures ∙ ap (λ vs. picked (tree_of e.1) vs) lent in (
      done ++ e ∷ [],
      ap attributes_of (append_assoc done (e ∷ []) left) ∙ whole,
      c.in_ok-put_some.ensures ∙ ap (λ o. put_some e.0 o l.new) stays ∙ ap (put_some e.0 (picked (tree_of e.1) deeper)) l.invariant.2 ∙ sym (picked_last done e left ps up),
    )

pub list_of-returns : goal.list_of-returns
list_of-returns t c =
    let l = c.loop-value in
    let xs = c.as_slice-value-items.result.now in
    let ps = entries_of c.args.paths.now in
    let none : onto (trees_of l.new) (picked_from (trees_of (drop l.value-index xs)) l.place ps) ≡ onto (trees_of l.new) no_trees =
    at_drop_all (λ vs. onto (trees_of l.new) (picked_from (trees_of vs) l.place ps)) xs l.value-index c.loop-value-test.false in
    c.from.ensures ∙ sym (onto_none (trees_of l.new)) ∙ sym none ∙ l.invariant.1 ∙ ap (λ inside. picked_list inside ps) c.as_slice-value-items.ensures

pub value_of-returns-in_default : goal.value_of-returns-in_default
value_of-returns-in_default t c =
    let value = tree_of c.args.value.now in
    sym (nothing_inside value) ∙ ap (λ es. picked value (entries_of es)) (sym (no_items _ c.in_default.ensures.cases))

pub value_of-returns : goal.value_of-returns
value_of-returns t c =
    let value = tree_of c.args.value.now in
    let here = leads_on c.args.paths.now c.in-Some.first.now c.in-Some.field-0-1.now c.in-Some.ensures.cases.0 (λ none. not_both c.is_empty.result (c.is_empty.ensures ∙ ap (λ (xs : List Step). length xs == 0) none) c.if-is_empty.false) c.requires in
    IfOk-weaker c.inside_of.result _ _ (λ new e. e ∙ ap (λ b. cond b (Some value) (picked_inside value (entries_of c.args.paths.now))) (sym here)) c.inside_of.ensures

pub item_of-value_of-requires : goal.item_of-value_of-requires
item_of-value_of-requires t c =
    let l = c.loop-name in
    let done = l.invariant.0 in
    let e : Entry = (c.in-Some.name.now, c.in-Some.value.now) in
    let left = c.next.new.self in
    let all : done ++ l.name-iterator ≡ done ++ e ∷ left = ap (λ es. done ++ es) c.in-Some.ensures.steps in
    let whole : weight (attributes_of (done ++ e ∷ left)) ≡ weight c.args.item.now = ap (λ es. weight (attributes_of es)) (sym all) ∙ ap weight l.invariant.1 in
    (omega (arith, c.decreases, attribute_weight done e left, whole), subst (λ es. AreInOrder (entries_of es)) (sym c.as_slice.ensures.value) c.in_ok-deeper.ensures.in_order)

pub list_of-value_of-requires : goal.list_of-value_of-requires
list_of-value_of-requires t c =
    let xs = c.as_slice-value-items.result.now in
    let whole : trees_weight (trees_of xs) ≡ trees_weight c.args.list.now = ap trees_weight c.as_slice-value-items.ensures in
    (omega (arith, c.decreases, element_weight xs c.loop-value.value-index c.value-item.result c.loop-value-test.true c.value-item.is, whole), subst (λ es. AreInOrder (entries_of es)) (sym c.as_slice.ensures.value) c.in_ok-deeper.ensures.in_order)
