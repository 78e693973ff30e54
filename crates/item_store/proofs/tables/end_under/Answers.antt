use Rattle.std.proofs.Common.{rules, ◌≡◌, Some}
use Rattle.std.specs.Ordering.{nat_cmp}
use Rattle.std.specs.BTreeMap.{get}
use Rattle.item_store.proofs.Under.{one_less, same_held}
use Rattle.item_store.proofs.tables.end_under.Goals as goal

pub returns-in-Some-clause-held : goal.returns-in-Some-clause-held
returns-in-Some-clause-held g c = λ ended.
    let old = c.in-Some.items.now in
    let new = c.end.new.self in
    let found : get nat_cmp c.args.tables.now c.args.table ≡ Some old = search rules in
    one_less c.args.tables.now (c.get_mut.follows.lender new) c.args.table old new found (c.get_mut.follows.holds new).0 (c.end.ensures.held ended)

pub returns-in-Some-clause-same_held : goal.returns-in-Some-clause-same_held
returns-in-Some-clause-same_held g c = λ same.
    let old = c.in-Some.items.now in
    let new = c.end.new.self in
    let found : get nat_cmp c.args.tables.now c.args.table ≡ Some old = search rules in
    same_held c.args.tables.now (c.get_mut.follows.lender new) c.args.table old new found (c.get_mut.follows.holds new).0 (c.end.ensures.same_held same)
