use Rattle.std.proofs.Common.{get_or, ◌∙◌}
use Rattle.std.specs.List.{flat_map}
use Rattle.std.specs.Option.{option_copied}
use Rattle.std.proofs.lemmas.List.{get_or_default}
use Rattle.index_changes.specs.Index.{changes_in}
use Rattle.index_changes.proofs.Adding.{added_more, added_all}
use Rattle.index_changes.proofs.row_changes.changes_of.Goals as goal

pub loop-index-preserved : goal.loop-index-preserved
loop-index-preserved g c = λ n.
    let xs = c.as_slice-index-items.result.now in
    let i = c.loop-index.index-index in
    added_more (changes_in (g.R.Rules.protocol n) c.args.catalog.now c.args.key.now (option_copied c.args.old) (option_copied c.args.new)) xs i _ c.loop-index.changes.items (get_or xs i 0) _ c.loop-index-test.true (get_or_default xs i 0 (get_or xs i 0) c.loop-index-test.true) (c.loop-index.invariant n) (c.in_ok-add_in.ensures n)

pub returns : goal.returns
returns g c = λ n.
    let f = changes_in (g.R.Rules.protocol n) c.args.catalog.now c.args.key.now (option_copied c.args.old) (option_copied c.args.new) in
    added_all f c.as_slice-index-items.result.now c.loop-index.index-index _ c.loop-index.changes.items c.loop-index-test.false (c.loop-index.invariant n)
    ∙ (λ j. flat_map f ((c.as_slice-index-items.ensures.value ∙ c.in_ok-numbers.ensures n) j))
