use Rattle.std.proofs.Common.{◌++◌, Some, ◌∙◌}
use Rattle.std.specs.List.{flat_map}
use Rattle.index_changes.specs.Founding.{founded_for}
use Rattle.index_changes.proofs.Adding.{added_all}
use Rattle.index_changes.proofs.founding.add_founding.Goals as goal

pub returns : goal.returns
returns g c = λ n.
    let S = g.R.Rules.protocol n in
    let f = founded_for S c.in_ok-old.old.items c.args.after.now c.args.key.now (Some c.args.item.now) in
    added_all f c.as_slice-index-items.result.now c.loop-index.index-index (c.args.changes.now.items ++ flat_map f c.as_slice-index-items.result.now)
    c.loop-index.changes.items c.loop-index-test.false (c.loop-index.invariant n)
    ∙ (λ j. c.args.changes.now.items ++ flat_map (founded_for S (c.in_ok-old.ensures n j) c.args.after.now c.args.key.now (Some c.args.item.now)) ((c.as_slice-index-items.ensures.value ∙ c.in_ok-new.ensures n) j))
