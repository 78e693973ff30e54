use Rattle.std.proofs.Common.{◌+◌, List, [], ◌∷◌, ◌++◌, drop, sym, ap, ◌∙◌}
use Rattle.std.proofs.lemmas.List.{at_drop_more}
use Rattle.attr_value.specs.View.{trees_of}
use Rattle.attr_value.specs.declared.value.Value.{Value}
use Rattle.attr_value.specs.Parts.{onto}
use Rattle.attr_value.proofs.PartLaws.{onto_push}
use Rattle.item_writes.proofs.new_value.push_copies.Goals as goal

pub loop-value-preserved : goal.loop-value-preserved
loop-value-preserved c = λ rest.
    let l = c.loop-value in
    let i = l.value-index in
    let xs = c.as_slice-value-items.result.now in
    let x = c.value-item.result in
    let more = onto (trees_of (drop (i + 1) xs)) rest in
    let whole = λ (vs : List Value). onto (trees_of l.all) (onto (trees_of vs) rest) in
    ap (λ vs. onto (trees_of vs) more) c.in_ok-push.ensures.ok
    ∙ ap (λ v. onto (trees_of (l.all ++ v ∷ [])) more) c.in_ok-try_clone.ensures
    ∙ onto_push l.all x more
    ∙ ap (λ v. whole (v ∷ drop (i + 1) xs)) c.value-item.is
    ∙ sym (at_drop_more whole xs i x c.loop-value-test.true)
    ∙ l.invariant rest
