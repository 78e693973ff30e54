use Rattle.std.proofs.Common.{◌≡◌, ◌∙◌, ◌++◌, length, arith, ap}
use Rattle.std.specs.Vec.Iter.{into_iter_items}
use Rattle.std.proofs.lemmas.List.{nil_from_length}
use Rattle.legacy_params.proofs.Moved.{one_put, all_put}
use Rattle.legacy_params.proofs.leaf.push_values.Goals as goal

pub loop-value-init : goal.loop-value-init
loop-value-init c =
    ap (λ vs. c.args.values.now ++ vs) (c.into_iter-value-iterator.ensures.into_iter_gives.0 ∙ c.from-value-items.ensures)

pub loop-value-preserved : goal.loop-value-preserved
loop-value-preserved c =
    one_put _ c.loop-value.values c.push.new.self c.in-Some.value (into_iter_items c.loop-value.value-iterator) (into_iter_items c.next.new.self)
    c.in-Some.ensures.steps.0 c.in_ok-push.ensures.ok c.loop-value.invariant

pub returns : goal.returns
returns c =
    let l = c.loop-value in
    let ended = c.in-None.ensures.steps.0 in
    let short : length (into_iter_items l.value-iterator) ≡ 0 = grind arith in
    all_put _ l.values (into_iter_items l.value-iterator) (nil_from_length (into_iter_items l.value-iterator) short) l.invariant
