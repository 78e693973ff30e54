use Rattle.std.proofs.Common.{◌≡◌, ◌∙◌, ◌++◌, length, map, arith, ap}
use Rattle.std.specs.Vec.Iter.{into_iter_items}
use Rattle.std.proofs.lemmas.List.{nil_from_length}
use Rattle.legacy_params.specs.Trees.{path_to}
use Rattle.legacy_params.proofs.Moved.{one_moved, all_moved}
use Rattle.legacy_params.proofs.projection.paths_to.Goals as goal

pub loop-name-init : goal.loop-name-init
loop-name-init c =
    ap (λ ps. ps ++ map path_to (into_iter_items c.into_iter-name-iterator.result)) c.in_ok-paths.ensures
    ∙ ap (map path_to) (c.into_iter-name-iterator.ensures.into_iter_gives.0 ∙ c.from-name-items.ensures)

pub loop-name-preserved : goal.loop-name-preserved
loop-name-preserved c =
    one_moved path_to _ c.loop-name.paths c.push.new.self c.in_ok-path_to.field-0 c.in-Some.name (into_iter_items c.loop-name.name-iterator)
    (into_iter_items c.next.new.self) c.in-Some.ensures.steps.0 c.in_ok-push.ensures.ok c.in_ok-path_to.ensures c.loop-name.invariant

pub returns : goal.returns
returns c =
    let l = c.loop-name in
    let ended = c.in-None.ensures.steps.0 in
    let short : length (into_iter_items l.name-iterator) ≡ 0 = grind arith in
    all_moved path_to _ l.paths (into_iter_items l.name-iterator) (nil_from_length (into_iter_items l.name-iterator) short) l.invariant
