use Rattle.std.proofs.Common.{rules, ◌≡◌}
use Rattle.std.specs.BTreeMap.{get, insert_entry}
use Rattle.index_changes.proofs.Weights.{put}
use Rattle.index_changes.proofs.prepared.PreparedChanges.prepare.Goals as goal

pub returns-in-Ok-clause-places : goal.returns-in-Ok-clause-places
returns-in-Ok-clause-places g c =
    let e : c.insert.new.self.entries ≡ insert_entry g.K.Ord.cmp c.args.self.now.lists.entries c.args.key c.args.changes = search rules in
    let was : c.in-Ok.old ≡ get g.K.Ord.cmp c.args.self.now.lists c.args.key = search rules in
    put g.K.Ord.cmp g.met.K.Ord.total c.args.self.now.lists c.insert.new.self c.args.key c.args.changes c.insert.ensures.was_ordered e c.in-Ok.old was
