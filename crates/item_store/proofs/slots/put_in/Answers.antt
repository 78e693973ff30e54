use Rattle.std.proofs.Common.{rules, ◌≡◌}
use Rattle.std.specs.BTreeMap.{insert_entry}
use Rattle.item_store.proofs.Weights.{inserted}
use Rattle.item_store.proofs.slots.put_in.Goals as goal

pub returns-in-Ok-clause-held : goal.returns-in-Ok-clause-held
returns-in-Ok-clause-held g c =
    let e : c.insert.new.self.entries ≡ insert_entry g.K.Ord.cmp c.args.slots.now.entries c.args.key c.args.slot = search rules in
    inserted g.K.Ord.cmp g.met.K.Ord.total c.args.slots.now c.insert.new.self c.args.key c.args.slot c.insert.ensures.was_ordered e c.requires
