use Rattle.std.proofs.Common.{◌≡◌, sym, ap, ◌∙◌}
use Rattle.partition.specs.Holders.{least_in, lesser}
use Rattle.std.specs.BTreeMap.{values}
use Rattle.std.specs.List.{sum_by}
use Rattle.item_store.specs.Slots.{held_in}
use Rattle.partition.proofs.InTheWay.{held_step, none_least}
use Rattle.partition.proofs.in_the_way.least_holder.Goals as goal

pub returns-then-held-eq0-clause-least : goal.returns-then-held-eq0-clause-least
returns-then-held-eq0-clause-least g c =
    let items = c.args.items.now in
    let none : sum_by held_in (values items.slots) ≡ 0 = sym items.counted ∙ sym c.held.ensures ∙ c.if-held-eq0.true in
    sym (none_least items.slots.entries none)

pub loop-key-preserved-in-Some-pending : goal.loop-key-preserved-in-Some-pending
loop-key-preserved-in-Some-pending g c =
    let best = c.loop-key.least in
    sym (held_step (c.in-Some._key.now, c.in-Some.slot.now) best c.lesser-least.result c.in-Some-pending.pending c.next.new.self c.in-Some-pending.is c.lesser-least.ensures)
    ∙ sym (ap (λ es. lesser best (least_in es)) c.in-Some.ensures.steps)
    ∙ c.loop-key.invariant
