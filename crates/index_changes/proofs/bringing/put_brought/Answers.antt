use Rattle.std.proofs.Common.{sym, ◌∙◌}
use Rattle.std.specs.BTreeMap.{is_at}
use Rattle.index_changes.proofs.BroughtOver.{none_pending}
use Rattle.index_changes.proofs.bringing.put_brought.Goals as goal

pub put-requires : goal.put-requires
put-requires g c = record {
  free = none_pending (is_at (g.R.Key.Ord.cmp c.in_ok-key.key)) c.args.items.now.slots.entries (sym c.args.items.now.counted ∙ c.requires);
}
