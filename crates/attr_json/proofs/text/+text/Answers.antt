use Rattle.std.proofs.Common.{◌≡◌, List, [], ◌∷◌, ◌++◌, sym, ap, ◌∙◌, subst, arith, append_assoc}
use Rattle.std.proofs.lemmas.List.{drop_all}
use Rattle.json.specs.Token.{Token, key}
use Rattle.json.specs.Tree.{members_tokens}
use Rattle.serde_json.specs.Written.{members_outline}
use Rattle.attr_value.specs.Tree.{weight, trees_weight}
use Rattle.attr_value.specs.View.{tree_of, trees_of, attributes_of}
use Rattle.attr_json.specs.ReadBack.{ElementsReadBack, AttributesReadBack}
use Rattle.attr_json.specs.Text.{tokens_of}
use Rattle.attr_json.specs.Written.{data_of, members_of}
use Rattle.attr_value.proofs.PartLaws.{attribute_weight, element_weight}
use Rattle.attr_value.proofs.Views.{Entry as Attribute}
use Rattle.attr_json.proofs.ReadBack.{no_elements_back, no_attributes_back, attribute_back, if_ok}
use Rattle.attr_json.proofs.text.+text.Goals as goal

regrouped : (before : List Token) (name : Token) (value rest : List Token) → ((before ++ name ∷ []) ++ value) ++ rest ≡ before ++ name ∷ (value ++ rest)
regrouped before name value rest = append_assoc (before ++ name ∷ []) value rest ∙ append_assoc before (name ∷ []) (value ++ rest)

pub write_item-write_value-requires : goal.write_item-write_value-requires
write_item-write_value-requires t c =
    let l = c.loop-name in
    let done = l.invariant.0 in
    let e : Attribute = (c.in-Some.name.now, c.in-Some.value.now) in
    let left = c.next.new.self in
    let all : done ++ l.name-iterator ≡ done ++ e ∷ left = ap (λ es. done ++ es) c.in-Some.ensures.steps in
    let whole : weight (attributes_of (done ++ e ∷ left)) ≡ weight c.args.item.now = ap (λ es. weight (attributes_of es)) (sym all) ∙ ap weight l.invariant.1 in
    (omega (arith, c.decreases, attribute_weight done e left, whole), tt)

pub write_item-loop-name-preserved : goal.write_item-loop-name-preserved
write_item-loop-name-preserved t c =
    let l = c.loop-name in
    let done = l.invariant.0 in
    let e : Attribute = (c.in-Some.name.now, c.in-Some.value.now) in
    let left = c.next.new.self in
    let all : done ++ l.name-iterator ≡ done ++ e ∷ left = ap (λ es. done ++ es) c.in-Some.ensures.steps in
    let rest = members_tokens (members_outline (members_of (attributes_of left))) in
    let value = tokens_of (data_of (tree_of e.1)) in
    let before = l.writer.tokens in
    let tokens = ap (λ ts. ts ++ rest) (c.in_ok-write_value.ensures.tokens ∙ ap (λ ts. ts ++ value) (c.in_ok-key.ensures.ok ∙ ap (λ n. before ++ key n ∷ []) c.as_str.ensures))
    ∙ regrouped before (key e.0) value rest
    ∙ ap (λ es. before ++ members_tokens (members_outline (members_of (attributes_of es)))) (sym c.in-Some.ensures.steps) ∙ l.invariant.2 in (
      done ++ e ∷ [],
      ap attributes_of (append_assoc done (e ∷ []) left ∙ sym all) ∙ l.invariant.1,
      tokens,
      c.in_ok-write_value.ensures.before ∙ c.in_ok-key.ensures.room.0 ∙ l.invariant.3,
      λ rest.
          l.invariant.4
          (subst (λ es. AttributesReadBack (attributes_of es)) (sym c.in-Some.ensures.steps)
          (attribute_back e.0 (tree_of e.1) (attributes_of left) c.in_ok-write_value.ensures.read_back rest)),
    )

pub write_item-returns-clause-read_back : goal.write_item-returns-clause-read_back
write_item-returns-clause-read_back t c =
    let none = subst (λ es. AttributesReadBack (attributes_of es)) (sym c.in-None.ensures.steps.0) no_attributes_back in
    if_ok c.end_object.result (c.loop-name.invariant.4 none)

pub write_list-write_value-requires : goal.write_list-write_value-requires
write_list-write_value-requires t c =
    let xs = c.as_slice-value-items.result.now in
    let whole : trees_weight (trees_of xs) ≡ trees_weight c.args.list.now = ap trees_weight c.as_slice-value-items.ensures in
    (omega (arith, c.decreases, element_weight xs c.loop-value.value-index c.value-item.result c.loop-value-test.true c.value-item.is, whole), tt)

pub write_list-returns-clause-read_back : goal.write_list-returns-clause-read_back
write_list-returns-clause-read_back t c =
    let xs = c.as_slice-value-items.result.now in
    let l = c.loop-value in
    let none = subst (λ vs. ElementsReadBack (trees_of vs)) (sym (drop_all l.value-index xs c.loop-value-test.false)) no_elements_back in
    if_ok c.end_array.result (subst ElementsReadBack c.as_slice-value-items.ensures (l.invariant.2 none))
