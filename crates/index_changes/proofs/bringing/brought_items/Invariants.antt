use Rattle.std.proofs.Common.{◌≡◌, None, drop}
use Rattle.std.specs.BTreeMap.{get}
use Rattle.index_changes.specs.Bringing.{brought_over}
use Rattle.index_changes.specs.Plans.{brought}
use Rattle.index_changes.proofs.bringing.brought_items.Given as goal

abbrev pub invariant-loop-key : goal.invariant-loop-key
invariant-loop-key g l = record {
  held : l.items.held ≡ 0;
  slots : (q : _) → let slot = brought (g.R.Rules.protocol l.partitions) l.here l.command l.before l.after l.stamp l.version in
      brought_over g.R.Key.Ord.cmp slot (drop l.key-index l.key-items) q (get g.R.Key.Ord.cmp l.items.slots q)
      ≡ brought_over g.R.Key.Ord.cmp slot l.key-items q None;
}
