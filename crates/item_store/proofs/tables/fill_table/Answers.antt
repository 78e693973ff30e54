use Rattle.std.proofs.Common.{rules, ◌≡◌, ◌+◌, Some, arith}
use Rattle.std.specs.Ordering.{nat_cmp}
use Rattle.std.specs.BTreeMap.{get}
use Rattle.item_store.specs.Tables.{held_under}
use Rattle.item_store.proofs.Under.{table_swapped}
use Rattle.item_store.proofs.tables.fill_table.Goals as goal

pub returns-clause-held : goal.returns-clause-held
returns-clause-held g c =
    let old = c.in-Some.place.now in
    let new = c.replace-old.new.dest in
    let found : get nat_cmp c.args.tables.now c.args.table ≡ Some old = search rules in
    let sum : held_under (c.get_mut.follows.lender new) + old.held ≡ held_under c.args.tables.now + new.held =
    table_swapped c.args.tables.now (c.get_mut.follows.lender new) c.args.table old new found (c.get_mut.follows.holds new).0 in
    let none : new.held ≡ 0 = search rules in
    let held : c.held-held.result ≡ old.held = search rules in
    omega arith
