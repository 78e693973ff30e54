use Rattle.std.proofs.Common.{◌≡◌, None, Some, if◌then◌else◌}
use Rattle.std.specs.BTreeMap.{get}
use Rattle.local_index.specs.declared.claim.Claim.TheVariants.{Committed}
use Rattle.index_changes.proofs.EntriesOver.{some_has}
use Rattle.index_changes.proofs.entering.entries_of_items.Given as goal

abbrev pub invariant-loop-key : goal.invariant-loop-key
invariant-loop-key g l =
    (q : _) → let has = some_has g.R.CellRules.locals g.R.LocalEntry.Ord.cmp l.catalog q in
    (if has l.key-iterator then Some Committed else get g.R.LocalEntry.Ord.cmp l.entries q)
    ≡ (if has l.items.slots.entries then Some Committed else None)
