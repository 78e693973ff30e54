use Rattle.std.proofs.Common.{◌≡◌, Some, if◌then◌else◌, length}
use Rattle.std.specs.BTreeMap.{get}
use Rattle.local_index.specs.declared.claim.Claim.TheVariants.{Committed}
use Rattle.local_index.specs.Entries.{is_among}
use Rattle.index_changes.proofs.entering.commit_all.Given as goal

abbrev pub invariant-loop-entry : goal.invariant-loop-entry
invariant-loop-entry g l =
    (q : _) → (if is_among g.E.Ord.cmp l.come.items q then Some Committed else get g.E.Ord.cmp l.entries q)
    ≡ (if is_among g.E.Ord.cmp l.fn.come.items q then Some Committed else get g.E.Ord.cmp l.initial.entries q)

abbrev pub decreases-loop-entry : goal.decreases-loop-entry
decreases-loop-entry g l = length l.come.items
