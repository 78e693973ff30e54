use Rattle.std.proofs.Common.{◌≡◌, [], ◌∷◌, ◌++◌, sym, ap, ◌∙◌, subst, append_assoc}
use Rattle.std.proofs.lemmas.List.{take_all}
use Rattle.std.specs.BTreeMap.{insert_entry}
use Rattle.std.specs.List.Sorted.{IsStrictlySortedBy}
use Rattle.std.specs.Map.{keys_of}
use Rattle.attr_value.specs.View.{trees_of, attributes_of}
use Rattle.attr_value.proofs.Views.{Entry, name_cmp, insert_last}
use Rattle.attr_value.proofs.value.+copy.Goals as goal

pub Elements::try_clone-returns : goal.Elements::try_clone-returns
Elements::try_clone-returns t c =
    let all = c.loop-value.invariant ∙ take_all c.loop-value.value-index c.as_slice-value-items.result.now c.loop-value-test.false in
    ap trees_of (all ∙ c.as_slice-value-items.ensures) ∙ c.self.view_is

pub Item::try_clone-loop-name-preserved : goal.Item::try_clone-loop-name-preserved
Item::try_clone-loop-name-preserved t c =
    let l = c.loop-name in
    let done = l.copies.entries in
    let e : Entry = (c.in-Some.name.now, c.in-Some.value.now) in
    let left = c.next.new.self in
    let all : done ++ l.name-iterator ≡ done ++ e ∷ left = ap (λ es. done ++ es) c.in-Some.ensures.steps in
    let up = subst (λ es. IsStrictlySortedBy name_cmp (keys_of es)) all l.invariant.1 in
    let made = c.in_ok-insert.ensures.entries
    ∙ ap (λ n. insert_entry name_cmp done n c.in_ok-try_clone.field-0) c.in_ok-name.ensures
    ∙ ap (insert_entry name_cmp done e.0) c.in_ok-try_clone.ensures ∙ insert_last done e left up in
    let whole = ap (λ es. es ++ left) made ∙ append_assoc done (e ∷ []) left ∙ sym all in
    (ap attributes_of whole ∙ l.invariant.0, subst (λ es. IsStrictlySortedBy name_cmp (keys_of es)) (sym whole) l.invariant.1)
