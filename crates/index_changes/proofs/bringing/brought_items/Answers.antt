use Rattle.std.proofs.Common.{◌≡◌, sym, ap, ◌∙◌}
use Rattle.std.specs.List.{list_any}
use Rattle.std.specs.BTreeMap.{get}
use Rattle.std.proofs.lemmas.List.{drop_all}
use Rattle.index_changes.specs.Bringing.{brought_over}
use Rattle.index_changes.specs.Plans.{brought}
use Rattle.index_changes.proofs.BroughtOver.{all_brought}
use Rattle.index_changes.proofs.Keys.{at_is, one_key}
use Rattle.index_changes.proofs.BroughtOver.{brought_adds}
use Rattle.index_changes.proofs.bringing.brought_items.Goals as goal

pub returns-clause-slots : goal.returns-clause-slots
returns-clause-slots g c = λ q.
    let n = c.args.partitions in
    let S = g.R.Rules.protocol n in
    let law = g.met.R.Rules.lawful n in
    let ordered = g.met.R.CellRules.ordered n in
    let cmp = g.R.Key.Ord.cmp in
    let slot = brought S c.args.here c.args.command.now c.args.before.now c.args.after.now c.args.stamp c.args.version in
    let keys = c.as_slice-key-items.result.now in
    let brings : keys ≡ S.index.brings c.args.command.now c.args.before.now = c.as_slice-key-items.ensures.value ∙ c.in_ok-keys.ensures n in
    sym (ap (λ ks. brought_over cmp slot ks q (get cmp c.loop-key.items.slots q)) (drop_all c.loop-key.key-index keys c.loop-key-test.false))
    ∙ c.loop-key.invariant.slots q
    ∙ all_brought cmp S.core.same (λ x y e. one_key S law x y (sym (at_is S law ordered x y) ∙ e)) (λ x y e. at_is S law ordered x y ∙ e) slot q keys
    (λ some.
    ap (λ ks. list_any (λ k. S.core.same k q) ks) brings
    ∙ law.index.brings c.args.command.now c.args.before.now q
    (brought_adds S c.args.here c.args.command.now c.args.before.now c.args.after.now c.args.stamp c.args.version q some))
