use Rattle.local_index.proofs.Kept.{kept}
use Rattle.local_index.proofs.laws.entries_keep_to_items.Goals as goal

pub returns : goal.returns
returns g c item_of = kept g.E.Ord.cmp g.I.PartialEq.eq item_of g.met.E.Ord.total
