use Rattle.std.proofs.Common.{rules, ◌≡◌, [], ◌∷◌, ◌++◌, drop, suc, Ok, sym, ap, ◌∙◌, subst, add-one, append_assoc, string_cmp}
use Rattle.std.specs.List.Sorted.{IsStrictlySortedBy}
use Rattle.std.specs.Map.{keys_of}
use Rattle.attr_value.specs.Tree.{Attributes}
use Rattle.std.proofs.Math.Seq.{drop-cons}
use Rattle.std.proofs.lemmas.List.{drop_all}
use Rattle.std.proofs.lemmas.Result.{err_from_is_err_and}
use Rattle.serde_json.specs.View.{view, items_view, members_view}
use Rattle.serde_json.proofs.Views.{view-Array}
use Rattle.attr_value.specs.View.{tree_of}
use Rattle.attr_value.specs.Paths.{put}
use Rattle.attr_json.specs.Answers.{IsAnswer}
use Rattle.attr_json.specs.Steps.{mapped}
use Rattle.attr_json.specs.Values.{value_of, only_of, typed, array_value, elements_of, attributes_of}
use Rattle.attr_json.proofs.Reading.{before, before-none, element_step}
use Rattle.attr_json.proofs.Only.{first_alone, not_one}
use Rattle.attr_json.proofs.Members.{Entry, member_step, member_fault, fault_along}
use Rattle.attr_json.proofs.read.+read.Goals as goal

pub elements_in-loop-item-preserved : goal.elements_in-loop-item-preserved
elements_in-loop-item-preserved t c =
    let l = c.loop-item in
    let xs = c.args.items.now in
    let x = c.item-item.result in
    let levels = c.args.levels in
    let rest = drop (suc l.item-index) xs in
    let here : drop l.item-index xs ≡ x ∷ rest = drop-cons xs l.item-index x c.loop-item-test.true ∙ ap (λ y. y ∷ rest) (sym c.item-item.is) in
    ap (λ n. mapped (before c.push.new.self) (elements_of (items_view (drop n xs)) levels)) (add-one l.item-index)
    ∙ ap (λ vs. mapped (before vs) (elements_of (items_view rest) levels)) c.in_ok-push.ensures.ok
    ∙ element_step l.elements (view x) (items_view rest) levels c.in_ok-value_in.field-0 c.in_ok-value_in.ensures
    ∙ ap (λ ys. mapped (before l.elements) (elements_of (items_view ys) levels)) (sym here)
    ∙ l.invariant

pub elements_in-returns : goal.elements_in-returns
elements_in-returns t c =
    let l = c.loop-item in
    let none : drop l.item-index c.args.items.now ≡ [] = drop_all l.item-index c.args.items.now c.loop-item-test.false in
    sym l.invariant ∙ ap (λ ys. mapped (before l.elements) (elements_of (items_view ys) c.args.levels)) none ∙ ap (λ ts. Ok ts) (before-none l.elements)

pub item_in-returns-in_err-value : goal.item_in-returns-in_err-value
item_in-returns-in_err-value t c =
    let done = c.loop-name.invariant in
    let e : Entry = (c.in-Some.name.now, c.in-Some.json.now) in
    let left = c.next.new.self in
    let all : c.args.members.now.entries ≡ done.0 ++ e ∷ left = done.1 ∙ ap (λ es. done.0 ++ es) c.in-Some.ensures.steps in
    let p = err_from_is_err_and c.from_residual.result c.from_residual.ensures.1 in
    rw (p.1, p.2)
    (fault_along tree_of (λ (item : Attributes). item) (value_of (view e.1) c.args.levels) (attributes_of (members_view c.args.members.now.entries) c.args.levels) _
    (λ fault is. ap (λ es. attributes_of (members_view es) c.args.levels) all ∙ member_fault done.0 e left c.args.levels c.loop-name.item fault done.2 is)
    c.in_err-value.ensures)

pub item_in-loop-name-preserved : goal.item_in-loop-name-preserved
item_in-loop-name-preserved t c =
    let done = c.loop-name.invariant in
    let e : Entry = (c.in-Some.name.now, c.in-Some.json.now) in
    let left = c.next.new.self in
    let all : c.args.members.now.entries ≡ done.0 ++ e ∷ left = done.1 ∙ ap (λ es. done.0 ++ es) c.in-Some.ensures.steps in
    let up = subst (λ es. IsStrictlySortedBy string_cmp (keys_of es)) all c.iter-name-items.ensures.ordered in
    let value = c.in_ok-value.value in
    let name = c.in_ok-copied.ensures ∙ c.as_str.ensures.value in (
      done.0 ++ e ∷ [],
      all ∙ sym (append_assoc done.0 (e ∷ []) left),
      member_step done.0 e left c.args.levels c.loop-name.item (tree_of value) up done.2 c.in_ok-value.ensures
          ∙ ap (λ i. Ok i) (ap (λ n. put n (tree_of value) c.loop-name.item) (sym name) ∙ sym c.in_ok-put.ensures.ok),
    )

pub only_in-returns-then-len-ne1 : goal.only_in-returns-then-len-ne1
only_in-returns-then-len-ne1 t c = not_one c.args.members.now.entries c.args.levels (λ one. c.if-len-ne1.true (c.len.ensures.len ∙ one))

pub only_in-typed-requires : goal.only_in-typed-requires
only_in-typed-requires t c =
    let e : Entry = (c.in-Some.name.now, c.in-Some.inner.now) in
    let whole : c.args.members.now.entries ≡ e ∷ [] =
    first_alone c.args.members.now.entries e (sym c.len.ensures.len ∙ c.if-len-ne1.false) c.in-Some.ensures.first in
    search rules

pub only_in-returns-in-Some : goal.only_in-returns-in-Some
only_in-returns-in-Some t c =
    let e : Entry = (c.in-Some.name.now, c.in-Some.inner.now) in
    let levels = c.args.levels in
    let whole : c.args.members.now.entries ≡ e ∷ [] =
    first_alone c.args.members.now.entries e (sym c.len.ensures.len ∙ c.if-len-ne1.false) c.in-Some.ensures.first in
    subst (λ es. IsAnswer tree_of (only_of (members_view es) levels) c.typed.result) (sym whole)
    (subst (λ n. IsAnswer tree_of (typed n (view e.1) levels) c.typed.result) c.as_str.ensures.value c.typed.ensures)

pub typed-returns-in-Array : goal.typed-returns-in-Array
typed-returns-in-Array t c =
    let levels = c.args.levels in
    let name = c.args.name.now in
    subst (λ d. IsAnswer tree_of (typed name d levels) c.array_value.result) (sym (ap view c.in-Array.is ∙ view-Array c.in-Array.items))
    (subst (λ xs. IsAnswer tree_of (array_value name (items_view xs) (elements_of (items_view xs)) levels) c.array_value.result) c.deref.ensures.value c.array_value.ensures)
