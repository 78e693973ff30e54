use Rattle.std.proofs.Common.{rules, ◌≡◌, Some, None}
use Rattle.std.specs.BTreeMap.{get}
use Rattle.item_store.proofs.Weights.{held_more, repended}
use Rattle.item_store.proofs.slots.hold_in.Goals as goal

pub returns-in-Some-clause-held : goal.returns-in-Some-clause-held
returns-in-Some-clause-held g c =
    let old = c.in-Some.slot.now in
    let new = repended old (Some c.args.pending) in
    let found : get g.K.Ord.cmp c.args.slots.now c.args.key ≡ Some old = search rules in
    let free : old.pending ≡ None = search rules in
    held_more g.K.Ord.cmp c.args.slots.now (c.get_mut.follows.lender new) c.args.key old c.args.pending found free
    (c.get_mut.follows.holds new).0
