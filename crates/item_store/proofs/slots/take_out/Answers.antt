use Rattle.item_store.proofs.Weights.{removed}
use Rattle.item_store.proofs.slots.take_out.Goals as goal

pub returns-clause-held : goal.returns-clause-held
returns-clause-held g c = removed g.K.Ord.cmp c.args.slots.now c.remove.new.self c.args.key.now c.remove.ensures.entries c.requires
