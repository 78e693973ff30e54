use Rattle.std.proofs.Common.{rules, ◌≡◌, Some}
use Rattle.std.specs.Ordering.{nat_cmp}
use Rattle.std.specs.BTreeMap.{get}
use Rattle.item_store.proofs.Under.{same_held}
use Rattle.item_store.proofs.tables.write_under.Goals as goal

pub returns-clause-held : goal.returns-clause-held
returns-clause-held g c =
    let old = c.in-Some.items.now in
    let new = c.write.new.self in
    let found : get nat_cmp c.args.tables.now c.args.table ≡ Some old = search rules in
    same_held c.args.tables.now (c.get_mut.follows.lender new) c.args.table old new found (c.get_mut.follows.holds new).0 c.write.ensures.held
