use Rattle.item_store.proofs.Under.{opened}
use Rattle.item_store.proofs.tables.open_table.Goals as goal
use Rattle.std.proofs.Common.{rules, ◌≡◌}
use Rattle.std.specs.Ordering.{nat_cmp}
use Rattle.std.specs.BTreeMap.{insert_entry}

pub returns-in-Ok-clause-held : goal.returns-in-Ok-clause-held
returns-in-Ok-clause-held g c =
    let e : c.insert.new.self.entries ≡ insert_entry nat_cmp c.args.tables.now.entries c.args.table c.new.result = search rules in
    opened c.args.tables.now c.insert.new.self c.args.table c.new.result c.insert.ensures.was_ordered e c.requires.new c.new.ensures.held
