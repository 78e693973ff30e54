use Rattle.std.proofs.Common.{rules, ◌≡◌, ◌+◌, ap, ◌∙◌}
use Rattle.std.specs.Ordering.{nat_cmp}
use Rattle.std.specs.BTreeMap.{get}
use Rattle.item_store.specs.Tables.{held_of, held_under}
use Rattle.item_store.proofs.Under.{closed}
use Rattle.item_store.proofs.tables.close_table.Goals as goal

pub returns-in-Some-clause-held : goal.returns-in-Some-clause-held
returns-in-Some-clause-held g c =
    let is : c.held-held.result ≡ held_of (get nat_cmp c.args.tables.now c.args.table) = search rules in
    ap (λ n. held_under c.remove.new.self + n) is ∙ closed c.args.tables.now c.remove.new.self c.args.table c.remove.ensures.entries
