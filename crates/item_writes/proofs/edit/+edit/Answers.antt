use Rattle.std.proofs.Common.{◌≡◌, List, [], ◌∷◌, ◌++◌, ◌+◌, suc, drop, option_map, sym, ap, ◌∙◌, subst, append_assoc, arith}
use Rattle.std.proofs.lemmas.List.{at_drop_more, at_drop_all}
use Rattle.attr_value.specs.Tree.{weight, trees_weight, no_trees, AreInOrder as AreNamesInOrder}
use Rattle.attr_value.specs.View.{tree_of, trees_of, attributes_of}
use Rattle.attr_value.specs.Parts.{onto, put_some}
use Rattle.attr_value.specs.Paths.{kept_element}
use Rattle.attr_value.specs.declared.value.Value.{Value}
use Rattle.path_entries.specs.Entries.{below, is_name, is_place, entries_of}
use Rattle.path_entries.specs.Order.{AreInOrder}
use Rattle.item_writes.specs.Edits.{appended, element, elements_from, kept}
use Rattle.item_writes.specs.NewTree.{seen}
use Rattle.attr_value.proofs.PartLaws.{attribute_weight, element_weight, onto_none}
use Rattle.attr_value.proofs.Views.{Entry}
use Rattle.item_writes.proofs.Kept.{kept_last, below_seen}
use Rattle.item_writes.proofs.edit.+edit.Goals as goal

pub write_all-loop-name-preserved : goal.write_all-loop-name-preserved
write_all-loop-name-preserved t c =
    let l = c.loop-name in
    let done = l.invariant.0 in
    let e : Entry = (c.in-Some.name.now, c.in-Some.value.now) in
    let left = c.next.new.self in
    let ws = seen (entries_of c.args.writes.now) in
    let deeper = below (is_name e.0) ws in
    let all : done ++ l.name-iterator ≡ done ++ e ∷ left = ap (λ es. done ++ es) c.in-Some.ensures.steps in
    let whole : attributes_of (done ++ e ∷ left) ≡ c.args.item.now = ap attributes_of (sym all) ∙ l.invariant.1 in
    let up = subst AreNamesInOrder (sym whole) c.iter-name-items.ensures.in_order in
    let lent : seen (entries_of c.as_slice.result.now) ≡ deeper =
    ap (λ es. seen (entries_of es)) c.as_slice.ensures.value ∙ ap seen c.in_ok-deeper.ensures.behind ∙ sym (below_seen (is_name e.0) (entries_of c.args.writes.now)) in
    let stays : option_map tree_of c.in_ok-stays.stays ≡ kept (tree_of e.1) deeper = c.in_ok-stays.ensures ∙ ap (λ vs. kept (tree_of e.1) vs) lent in (
      done ++ e ∷ [],
      ap attributes_of (append_assoc done (e ∷ []) left) ∙ whole,
      c.in_ok-put_some.ensures ∙ ap (λ o. put_some e.0 o l.new) stays ∙ ap (put_some e.0 (kept (tree_of e.1) deeper)) l.invariant.2 ∙ sym (kept_last done e left ws up),
    )

pub list_of-loop-value-preserved : goal.list_of-loop-value-preserved
list_of-loop-value-preserved t c =
    let l = c.loop-value in
    let i = l.value-index in
    let xs = c.as_slice-value-items.result.now in
    let ws = seen (entries_of c.args.writes.now) in
    let deeper = below (is_place l.place) ws in
    let x = c.value-item.result in
    let us = elements_from (trees_of (drop (i + 1) xs)) (l.place + 1) ws in
    let next : l.place + 1 ≡ suc l.place = omega arith in
    let lent : seen (entries_of c.as_slice.result.now) ≡ deeper =
    ap (λ es. seen (entries_of es)) c.as_slice.ensures.value ∙ ap seen c.in_ok-deeper.ensures.behind ∙ sym (below_seen (is_place l.place) (entries_of c.args.writes.now)) in
    let stays : option_map tree_of c.in_ok-stays.stays ≡ element (tree_of x) deeper = c.in_ok-stays.ensures ∙ ap (λ vs. element (tree_of x) vs) lent in
    let whole = λ (es : List Value). onto (trees_of l.new) (elements_from (trees_of es) l.place ws) in (
      omega (arith, l.invariant.0),
      c.in_ok-push_some.ensures us
          ∙ ap (λ o. onto (trees_of l.new) (kept_element o us)) stays
          ∙ ap (λ n. onto (trees_of l.new) (kept_element (element (tree_of x) deeper) (elements_from (trees_of (drop (i + 1) xs)) n ws))) next
          ∙ ap (λ v. whole (v ∷ drop (i + 1) xs)) c.value-item.is
          ∙ sym (at_drop_more whole xs i x c.loop-value-test.true)
          ∙ l.invariant.1,
    )

pub list_of-returns : goal.list_of-returns
list_of-returns t c =
    let l = c.loop-write in
    let ws = c.args.writes.now in
    let place = c.loop-value.place in
    let none : onto (trees_of l.new) (appended place (seen (entries_of (drop l.write-index ws)))) ≡ onto (trees_of l.new) no_trees =
    at_drop_all (λ vs. onto (trees_of l.new) (appended place (seen (entries_of vs)))) ws l.write-index c.loop-write-test.false in
    c.from.ensures ∙ sym (onto_none (trees_of l.new)) ∙ sym none ∙ l.invariant

pub write_all-kept-requires : goal.write_all-kept-requires
write_all-kept-requires t c =
    let l = c.loop-name in
    let done = l.invariant.0 in
    let e : Entry = (c.in-Some.name.now, c.in-Some.value.now) in
    let left = c.next.new.self in
    let all : done ++ l.name-iterator ≡ done ++ e ∷ left = ap (λ es. done ++ es) c.in-Some.ensures.steps in
    let whole : weight (attributes_of (done ++ e ∷ left)) ≡ weight c.args.item.now = ap (λ es. weight (attributes_of es)) (sym all) ∙ ap weight l.invariant.1 in
    (omega (arith, c.decreases, attribute_weight done e left, whole), subst (λ es. AreInOrder (entries_of es)) (sym c.as_slice.ensures.value) c.in_ok-deeper.ensures.in_order)

pub list_of-element-requires : goal.list_of-element-requires
list_of-element-requires t c =
    let xs = c.as_slice-value-items.result.now in
    let whole : trees_weight (trees_of xs) ≡ trees_weight c.args.list.now = ap trees_weight c.as_slice-value-items.ensures in
    (omega (arith, c.decreases, element_weight xs c.loop-value.value-index c.value-item.result c.loop-value-test.true c.value-item.is, whole), subst (λ es. AreInOrder (entries_of es)) (sym c.as_slice.ensures.value) c.in_ok-deeper.ensures.in_order)
