use Rattle.std.proofs.Common.{◌≡◌, [], drop, ap, ◌∙◌, arith}
use Rattle.std.proofs.lemmas.List.{drop_all}
use Rattle.attr_value.specs.Sizes.{list_size, item_size}
use Rattle.attr_value.specs.View.{trees_of, attributes_of}
use Rattle.attr_value.proofs.+size.Goals as goal

pub size::list_bytes-returns : goal.size::list_bytes-returns
size::list_bytes-returns t c =
    let l = c.loop-value in
    let xs = c.as_slice-value-items.result.now in
    let none : drop l.value-index xs ≡ [] = drop_all l.value-index xs (omega arith) in
    let rest : list_size (trees_of (drop l.value-index xs)) ≡ 0 = ap (λ vs. list_size (trees_of vs)) none in
    let whole : list_size (trees_of xs) ≡ list_size c.args.list.now = ap (λ vs. list_size (trees_of vs)) c.as_slice-value-items.ensures ∙ ap list_size c.list.view_is in
    omega (arith, rest, whole, l.invariant.sum)

pub value::Item::size-returns : goal.value::Item::size-returns
value::Item::size-returns t c =
    let rest : item_size (attributes_of c.loop-name.name-iterator) ≡ 0 = ap (λ es. item_size (attributes_of es)) c.in-None.ensures.steps.0 in
    omega (arith, rest, c.loop-name.invariant.sum)
