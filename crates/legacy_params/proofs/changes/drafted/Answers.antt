use Rattle.std.proofs.Common.{◌≡◌, ◌∙◌, length, arith}
use Rattle.std.specs.Vec.Iter.{into_iter_items}
use Rattle.std.proofs.lemmas.List.{nil_from_length}
use Rattle.legacy_params.specs.Drafts.{draft_tree}
use Rattle.legacy_params.proofs.Steps.{none_changed, one_change, all_changes}
use Rattle.legacy_params.proofs.changes.drafted.Goals as goal

pub loop-change-init : goal.loop-change-init
loop-change-init c =
    none_changed c.args.changes _ _ _ (c.into_iter-change-iterator.ensures.into_iter_gives.0 ∙ c.from-change-items.ensures) c.new.ensures c.new-2.ensures
    c.new-3.ensures c.new-4.ensures c.new-values.ensures

pub loop-change-preserved : goal.loop-change-preserved
loop-change-preserved c =
    let l = c.loop-change in
    one_change c.args.changes (draft_tree l.draft) (draft_tree c.add.new.self) l.values c.add.new.values c.in-Some.change (into_iter_items l.change-iterator)
    (into_iter_items c.next.new.self) c.in-Some.ensures.steps.0 c.in_ok-add.ensures.tree c.in_ok-add.ensures.values l.invariant

pub returns : goal.returns
returns c =
    let l = c.loop-change in
    let ended = c.in-None.ensures.steps.0 in
    let short : length (into_iter_items l.change-iterator) ≡ 0 = grind arith in
    let all = all_changes c.args.changes (draft_tree l.draft) l.values (into_iter_items l.change-iterator)
    (nil_from_length (into_iter_items l.change-iterator) short) l.invariant in record { tree = all.0; values = all.1 }
