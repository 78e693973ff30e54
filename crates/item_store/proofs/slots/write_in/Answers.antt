use Rattle.std.proofs.Common.{rules, ◌≡◌, Some}
use Rattle.std.specs.BTreeMap.{get}
use Rattle.item_store.proofs.Weights.{same_pending}
use Rattle.item_store.proofs.slots.write_in.Goals as goal

pub returns-in-Some-clause-held : goal.returns-in-Some-clause-held
returns-in-Some-clause-held g c =
    let old = c.in-Some.slot.now in
    let new = c.write.new.self in
    let found : get g.K.Ord.cmp c.args.slots.now c.args.key ≡ Some old = search rules in
    same_pending g.K.Ord.cmp c.args.slots.now (c.get_mut.follows.lender new) c.args.key old new found c.write.ensures.held
    (c.get_mut.follows.holds new).0
