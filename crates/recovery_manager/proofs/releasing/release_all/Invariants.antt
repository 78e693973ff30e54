use Rattle.std.proofs.Common.{◌≡◌, ◌-◌, ◌++◌, List, length}
use Rattle.std.specs.BTreeSet.{contains}
use Rattle.std.specs.Ordering.{nat_cmp}
use Rattle.txn_core.specs.declared.answer.HeldItem.{HeldItem}
use Rattle.recovery_manager.specs.Parts.{ReleasesGone}
use Rattle.recovery_manager.proofs.releasing.release_all.Given as goal

abbrev pub invariant-loop-item : goal.invariant-loop-item
invariant-loop-item g l =
    (done : List (HeldItem _)) × (l.fn.items.items ≡ l.items.items ++ done)
    × ReleasesGone (g.R.Rules.protocol (l.caller.id.slots - 1)) (contains nat_cmp l.gone) done l.fn.pass l.pass

abbrev pub decreases-loop-item : goal.decreases-loop-item
decreases-loop-item g l = length l.items.items
