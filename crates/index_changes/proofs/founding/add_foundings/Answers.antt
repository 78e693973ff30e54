use Rattle.std.proofs.Common.{rules, ◌≡◌, None, ◌∙◌}
use Rattle.index_changes.specs.Plans.{founding_at}
use Rattle.index_changes.proofs.Foundings.{founding_free, founding_item, one_step}
use Rattle.index_changes.proofs.founding.add_foundings.Goals as goal

pub loop-key-preserved-in-Continue-1 : goal.loop-key-preserved-in-Continue-1
loop-key-preserved-in-Continue-1 g c = λ n.
    let S = g.R.Rules.protocol n in
    one_step (founding_at S c.args.before.now c.args.after.now) c.loop-key.changes.items c.add_founding.new.changes.items (c.in-Some.key.now, c.in-Some.slot.now) c.next.new.self c.loop-key.key-iterator
    c.in-Some.ensures.steps
    (founding_item S c.args.before.now c.args.after.now (c.in-Some.key.now, c.in-Some.slot.now) c.loop-key.changes.items c.add_founding.new.changes.items c.in-Some-committed.committed
    c.in-Some-committed.is (c.in_ok-add_founding.ensures n))
    ∙ c.loop-key.invariant n

pub loop-key-preserved : goal.loop-key-preserved
loop-key-preserved g c = λ n.
    let S = g.R.Rules.protocol n in
    let none : c.in-Some.slot.now.committed ≡ None = search rules in
    one_step (founding_at S c.args.before.now c.args.after.now) c.loop-key.changes.items c.loop-key.changes.items (c.in-Some.key.now, c.in-Some.slot.now) c.next.new.self c.loop-key.key-iterator
    c.in-Some.ensures.steps (founding_free S c.args.before.now c.args.after.now (c.in-Some.key.now, c.in-Some.slot.now) c.loop-key.changes.items none)
    ∙ c.loop-key.invariant n
