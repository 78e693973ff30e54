use Rattle.std.proofs.Common.{rules, ◌≡◌, ◌+◌, Some}
use Rattle.std.specs.Ordering.{nat_cmp}
use Rattle.std.specs.BTreeMap.{get}
use Rattle.item_store.proofs.Under.{one_more, same_held, on_err}
use Rattle.item_store.proofs.tables.hold_under.Goals as goal

pub returns-clause-held : goal.returns-clause-held
returns-clause-held g c =
    let old = c.in-Some.items.now in
    let new = c.hold.new.self in
    let found : get nat_cmp c.args.tables.now c.args.table ≡ Some old = search rules in
    let more : new.held ≡ old.held + 1 = search rules in
    one_more c.args.tables.now (c.get_mut.follows.lender new) c.args.table old new found (c.get_mut.follows.holds new).0 more

pub returns-in_err-hold-in-Some-clause-err_held : goal.returns-in_err-hold-in-Some-clause-err_held
returns-in_err-hold-in-Some-clause-err_held g c =
    let old = c.in-Some.items.now in
    let new = c.hold.new.self in
    let found : get nat_cmp c.args.tables.now c.args.table ≡ Some old = search rules in
    let same : new.held ≡ old.held = search rules in
    on_err c.from_residual.result (same_held c.args.tables.now (c.get_mut.follows.lender new) c.args.table old new found (c.get_mut.follows.holds new).0 same)
