use Rattle.std.proofs.Common.{rules, ◌≡◌}
use Rattle.std.specs.BTreeMap.{get}
use Rattle.index_changes.proofs.Weights.{taken}
use Rattle.index_changes.proofs.prepared.PreparedChanges.take.Goals as goal

pub returns-clause-places : goal.returns-clause-places
returns-clause-places g c =
    let was : c.remove.result ≡ get g.K.Ord.cmp c.args.self.now.lists c.args.key.now = search rules in
    taken g.K.Ord.cmp c.args.self.now.lists c.remove.new.self c.args.key.now c.remove.ensures.entries c.remove.result was
