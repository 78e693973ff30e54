use Rattle.std.proofs.Common.{◌≤◌, arith}
use Rattle.item_store.specs.Tables.{held_under}
use Rattle.item_store.proofs.Under.{one_held}
use Rattle.item_store.proofs.store.ItemStore.end.Goals as goal

pub end_under-ended-requires : goal.end_under-ended-requires
end_under-ended-requires g c = λ held.
    let store = c.args.self.now in
    let one : 1 ≤ held_under store.tables = one_held store.tables c.args.table c.args.key.now c.args.number held in
    let counted = store.counted in
    let room = store.room in
    omega arith
