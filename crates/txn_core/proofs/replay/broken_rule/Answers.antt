use Rattle.std.proofs.Common.{[], ◌∷◌, reverse}
use Rattle.txn_core.specs.declared.kind.BreakKind.TheVariants.{NotBegun, EarlyCommit, CauselessCancel, EarlyApply, EarlyRelease, EarlyDone, EarlyForget, IndexOrder, AllCells}
use Rattle.txn_core.proofs.Breaking.{broken, kept_first}
use Rattle.txn_core.proofs.replay.broken_rule.Goals as goal

pub returns-then-not-names_begun : goal.returns-then-not-names_begun
returns-then-not-names_begun g c =
    broken (g.R.Rules.protocol c.args.partitions) (reverse c.args.past.now) c.args.entry.now NotBegun (EarlyCommit ∷ CauselessCancel ∷ EarlyApply ∷ EarlyRelease ∷ EarlyDone ∷ EarlyForget ∷ IndexOrder ∷ AllCells ∷ []) c.names_begun.result c.if-not-names_begun.true (c.names_begun.ensures c.args.partitions c.args.entry.now.pass)

pub returns-then-not-has_ground_for : goal.returns-then-not-has_ground_for
returns-then-not-has_ground_for g c =
    kept_first (g.R.Rules.protocol c.args.partitions) (reverse c.args.past.now) c.args.entry.now NotBegun (EarlyCommit ∷ CauselessCancel ∷ EarlyApply ∷ EarlyRelease ∷ EarlyDone ∷ EarlyForget ∷ IndexOrder ∷ AllCells ∷ []) c.names_begun.result c.if-not-names_begun.false (c.names_begun.ensures c.args.partitions c.args.entry.now.pass) EarlyCommit
    (broken (g.R.Rules.protocol c.args.partitions) (reverse c.args.past.now) c.args.entry.now EarlyCommit (CauselessCancel ∷ EarlyApply ∷ EarlyRelease ∷ EarlyDone ∷ EarlyForget ∷ IndexOrder ∷ AllCells ∷ []) c.has_ground_for.result c.if-not-has_ground_for.true (c.has_ground_for.ensures c.args.partitions))

pub returns-then-not-has_ground_for-2 : goal.returns-then-not-has_ground_for-2
returns-then-not-has_ground_for-2 g c =
    kept_first (g.R.Rules.protocol c.args.partitions) (reverse c.args.past.now) c.args.entry.now NotBegun (EarlyCommit ∷ CauselessCancel ∷ EarlyApply ∷ EarlyRelease ∷ EarlyDone ∷ EarlyForget ∷ IndexOrder ∷ AllCells ∷ []) c.names_begun.result c.if-not-names_begun.false (c.names_begun.ensures c.args.partitions c.args.entry.now.pass) CauselessCancel
    (kept_first (g.R.Rules.protocol c.args.partitions) (reverse c.args.past.now) c.args.entry.now EarlyCommit (CauselessCancel ∷ EarlyApply ∷ EarlyRelease ∷ EarlyDone ∷ EarlyForget ∷ IndexOrder ∷ AllCells ∷ []) c.has_ground_for.result c.if-not-has_ground_for.false (c.has_ground_for.ensures c.args.partitions) CauselessCancel
    (broken (g.R.Rules.protocol c.args.partitions) (reverse c.args.past.now) c.args.entry.now CauselessCancel (EarlyApply ∷ EarlyRelease ∷ EarlyDone ∷ EarlyForget ∷ IndexOrder ∷ AllCells ∷ []) c.has_ground_for-2.result c.if-not-has_ground_for-2.true (c.has_ground_for-2.ensures c.args.partitions)))

pub returns-then-not-applies_late : goal.returns-then-not-applies_late
returns-then-not-applies_late g c =
    kept_first (g.R.Rules.protocol c.args.partitions) (reverse c.args.past.now) c.args.entry.now NotBegun (EarlyCommit ∷ CauselessCancel ∷ EarlyApply ∷ EarlyRelease ∷ EarlyDone ∷ EarlyForget ∷ IndexOrder ∷ AllCells ∷ []) c.names_begun.result c.if-not-names_begun.false (c.names_begun.ensures c.args.partitions c.args.entry.now.pass) EarlyApply
    (kept_first (g.R.Rules.protocol c.args.partitions) (reverse c.args.past.now) c.args.entry.now EarlyCommit (CauselessCancel ∷ EarlyApply ∷ EarlyRelease ∷ EarlyDone ∷ EarlyForget ∷ IndexOrder ∷ AllCells ∷ []) c.has_ground_for.result c.if-not-has_ground_for.false (c.has_ground_for.ensures c.args.partitions) EarlyApply
    (kept_first (g.R.Rules.protocol c.args.partitions) (reverse c.args.past.now) c.args.entry.now CauselessCancel (EarlyApply ∷ EarlyRelease ∷ EarlyDone ∷ EarlyForget ∷ IndexOrder ∷ AllCells ∷ []) c.has_ground_for-2.result c.if-not-has_ground_for-2.false (c.has_ground_for-2.ensures c.args.partitions) EarlyApply
    (broken (g.R.Rules.protocol c.args.partitions) (reverse c.args.past.now) c.args.entry.now EarlyApply (EarlyRelease ∷ EarlyDone ∷ EarlyForget ∷ IndexOrder ∷ AllCells ∷ []) c.applies_late.result c.if-not-applies_late.true (c.applies_late.ensures c.args.partitions c.args.entry.now.pass))))

pub returns-then-not-releases_late : goal.returns-then-not-releases_late
returns-then-not-releases_late g c =
    kept_first (g.R.Rules.protocol c.args.partitions) (reverse c.args.past.now) c.args.entry.now NotBegun (EarlyCommit ∷ CauselessCancel ∷ EarlyApply ∷ EarlyRelease ∷ EarlyDone ∷ EarlyForget ∷ IndexOrder ∷ AllCells ∷ []) c.names_begun.result c.if-not-names_begun.false (c.names_begun.ensures c.args.partitions c.args.entry.now.pass) EarlyRelease
    (kept_first (g.R.Rules.protocol c.args.partitions) (reverse c.args.past.now) c.args.entry.now EarlyCommit (CauselessCancel ∷ EarlyApply ∷ EarlyRelease ∷ EarlyDone ∷ EarlyForget ∷ IndexOrder ∷ AllCells ∷ []) c.has_ground_for.result c.if-not-has_ground_for.false (c.has_ground_for.ensures c.args.partitions) EarlyRelease
    (kept_first (g.R.Rules.protocol c.args.partitions) (reverse c.args.past.now) c.args.entry.now CauselessCancel (EarlyApply ∷ EarlyRelease ∷ EarlyDone ∷ EarlyForget ∷ IndexOrder ∷ AllCells ∷ []) c.has_ground_for-2.result c.if-not-has_ground_for-2.false (c.has_ground_for-2.ensures c.args.partitions) EarlyRelease
    (kept_first (g.R.Rules.protocol c.args.partitions) (reverse c.args.past.now) c.args.entry.now EarlyApply (EarlyRelease ∷ EarlyDone ∷ EarlyForget ∷ IndexOrder ∷ AllCells ∷ []) c.applies_late.result c.if-not-applies_late.false (c.applies_late.ensures c.args.partitions c.args.entry.now.pass) EarlyRelease
    (broken (g.R.Rules.protocol c.args.partitions) (reverse c.args.past.now) c.args.entry.now EarlyRelease (EarlyDone ∷ EarlyForget ∷ IndexOrder ∷ AllCells ∷ []) c.releases_late.result c.if-not-releases_late.true (c.releases_late.ensures c.args.partitions c.args.entry.now.pass)))))

pub returns-then-not-finishes_late : goal.returns-then-not-finishes_late
returns-then-not-finishes_late g c =
    kept_first (g.R.Rules.protocol c.args.partitions) (reverse c.args.past.now) c.args.entry.now NotBegun (EarlyCommit ∷ CauselessCancel ∷ EarlyApply ∷ EarlyRelease ∷ EarlyDone ∷ EarlyForget ∷ IndexOrder ∷ AllCells ∷ []) c.names_begun.result c.if-not-names_begun.false (c.names_begun.ensures c.args.partitions c.args.entry.now.pass) EarlyDone
    (kept_first (g.R.Rules.protocol c.args.partitions) (reverse c.args.past.now) c.args.entry.now EarlyCommit (CauselessCancel ∷ EarlyApply ∷ EarlyRelease ∷ EarlyDone ∷ EarlyForget ∷ IndexOrder ∷ AllCells ∷ []) c.has_ground_for.result c.if-not-has_ground_for.false (c.has_ground_for.ensures c.args.partitions) EarlyDone
    (kept_first (g.R.Rules.protocol c.args.partitions) (reverse c.args.past.now) c.args.entry.now CauselessCancel (EarlyApply ∷ EarlyRelease ∷ EarlyDone ∷ EarlyForget ∷ IndexOrder ∷ AllCells ∷ []) c.has_ground_for-2.result c.if-not-has_ground_for-2.false (c.has_ground_for-2.ensures c.args.partitions) EarlyDone
    (kept_first (g.R.Rules.protocol c.args.partitions) (reverse c.args.past.now) c.args.entry.now EarlyApply (EarlyRelease ∷ EarlyDone ∷ EarlyForget ∷ IndexOrder ∷ AllCells ∷ []) c.applies_late.result c.if-not-applies_late.false (c.applies_late.ensures c.args.partitions c.args.entry.now.pass) EarlyDone
    (kept_first (g.R.Rules.protocol c.args.partitions) (reverse c.args.past.now) c.args.entry.now EarlyRelease (EarlyDone ∷ EarlyForget ∷ IndexOrder ∷ AllCells ∷ []) c.releases_late.result c.if-not-releases_late.false (c.releases_late.ensures c.args.partitions c.args.entry.now.pass) EarlyDone
    (broken (g.R.Rules.protocol c.args.partitions) (reverse c.args.past.now) c.args.entry.now EarlyDone (EarlyForget ∷ IndexOrder ∷ AllCells ∷ []) c.finishes_late.result c.if-not-finishes_late.true (c.finishes_late.ensures c.args.partitions c.args.entry.now.pass))))))

pub returns-then-not-forgets_late : goal.returns-then-not-forgets_late
returns-then-not-forgets_late g c =
    kept_first (g.R.Rules.protocol c.args.partitions) (reverse c.args.past.now) c.args.entry.now NotBegun (EarlyCommit ∷ CauselessCancel ∷ EarlyApply ∷ EarlyRelease ∷ EarlyDone ∷ EarlyForget ∷ IndexOrder ∷ AllCells ∷ []) c.names_begun.result c.if-not-names_begun.false (c.names_begun.ensures c.args.partitions c.args.entry.now.pass) EarlyForget
    (kept_first (g.R.Rules.protocol c.args.partitions) (reverse c.args.past.now) c.args.entry.now EarlyCommit (CauselessCancel ∷ EarlyApply ∷ EarlyRelease ∷ EarlyDone ∷ EarlyForget ∷ IndexOrder ∷ AllCells ∷ []) c.has_ground_for.result c.if-not-has_ground_for.false (c.has_ground_for.ensures c.args.partitions) EarlyForget
    (kept_first (g.R.Rules.protocol c.args.partitions) (reverse c.args.past.now) c.args.entry.now CauselessCancel (EarlyApply ∷ EarlyRelease ∷ EarlyDone ∷ EarlyForget ∷ IndexOrder ∷ AllCells ∷ []) c.has_ground_for-2.result c.if-not-has_ground_for-2.false (c.has_ground_for-2.ensures c.args.partitions) EarlyForget
    (kept_first (g.R.Rules.protocol c.args.partitions) (reverse c.args.past.now) c.args.entry.now EarlyApply (EarlyRelease ∷ EarlyDone ∷ EarlyForget ∷ IndexOrder ∷ AllCells ∷ []) c.applies_late.result c.if-not-applies_late.false (c.applies_late.ensures c.args.partitions c.args.entry.now.pass) EarlyForget
    (kept_first (g.R.Rules.protocol c.args.partitions) (reverse c.args.past.now) c.args.entry.now EarlyRelease (EarlyDone ∷ EarlyForget ∷ IndexOrder ∷ AllCells ∷ []) c.releases_late.result c.if-not-releases_late.false (c.releases_late.ensures c.args.partitions c.args.entry.now.pass) EarlyForget
    (kept_first (g.R.Rules.protocol c.args.partitions) (reverse c.args.past.now) c.args.entry.now EarlyDone (EarlyForget ∷ IndexOrder ∷ AllCells ∷ []) c.finishes_late.result c.if-not-finishes_late.false (c.finishes_late.ensures c.args.partitions c.args.entry.now.pass) EarlyForget
    (broken (g.R.Rules.protocol c.args.partitions) (reverse c.args.past.now) c.args.entry.now EarlyForget (IndexOrder ∷ AllCells ∷ []) c.forgets_late.result c.if-not-forgets_late.true (c.forgets_late.ensures c.args.partitions)))))))

pub returns-then-not-feeds_in_order : goal.returns-then-not-feeds_in_order
returns-then-not-feeds_in_order g c =
    kept_first (g.R.Rules.protocol c.args.partitions) (reverse c.args.past.now) c.args.entry.now NotBegun (EarlyCommit ∷ CauselessCancel ∷ EarlyApply ∷ EarlyRelease ∷ EarlyDone ∷ EarlyForget ∷ IndexOrder ∷ AllCells ∷ []) c.names_begun.result c.if-not-names_begun.false (c.names_begun.ensures c.args.partitions c.args.entry.now.pass) IndexOrder
    (kept_first (g.R.Rules.protocol c.args.partitions) (reverse c.args.past.now) c.args.entry.now EarlyCommit (CauselessCancel ∷ EarlyApply ∷ EarlyRelease ∷ EarlyDone ∷ EarlyForget ∷ IndexOrder ∷ AllCells ∷ []) c.has_ground_for.result c.if-not-has_ground_for.false (c.has_ground_for.ensures c.args.partitions) IndexOrder
    (kept_first (g.R.Rules.protocol c.args.partitions) (reverse c.args.past.now) c.args.entry.now CauselessCancel (EarlyApply ∷ EarlyRelease ∷ EarlyDone ∷ EarlyForget ∷ IndexOrder ∷ AllCells ∷ []) c.has_ground_for-2.result c.if-not-has_ground_for-2.false (c.has_ground_for-2.ensures c.args.partitions) IndexOrder
    (kept_first (g.R.Rules.protocol c.args.partitions) (reverse c.args.past.now) c.args.entry.now EarlyApply (EarlyRelease ∷ EarlyDone ∷ EarlyForget ∷ IndexOrder ∷ AllCells ∷ []) c.applies_late.result c.if-not-applies_late.false (c.applies_late.ensures c.args.partitions c.args.entry.now.pass) IndexOrder
    (kept_first (g.R.Rules.protocol c.args.partitions) (reverse c.args.past.now) c.args.entry.now EarlyRelease (EarlyDone ∷ EarlyForget ∷ IndexOrder ∷ AllCells ∷ []) c.releases_late.result c.if-not-releases_late.false (c.releases_late.ensures c.args.partitions c.args.entry.now.pass) IndexOrder
    (kept_first (g.R.Rules.protocol c.args.partitions) (reverse c.args.past.now) c.args.entry.now EarlyDone (EarlyForget ∷ IndexOrder ∷ AllCells ∷ []) c.finishes_late.result c.if-not-finishes_late.false (c.finishes_late.ensures c.args.partitions c.args.entry.now.pass) IndexOrder
    (kept_first (g.R.Rules.protocol c.args.partitions) (reverse c.args.past.now) c.args.entry.now EarlyForget (IndexOrder ∷ AllCells ∷ []) c.forgets_late.result c.if-not-forgets_late.false (c.forgets_late.ensures c.args.partitions) IndexOrder
    (broken (g.R.Rules.protocol c.args.partitions) (reverse c.args.past.now) c.args.entry.now IndexOrder (AllCells ∷ []) c.feeds_in_order.result c.if-not-feeds_in_order.true (c.feeds_in_order.ensures c.args.entry.now.pass))))))))

pub returns-then-not-has_its_reach : goal.returns-then-not-has_its_reach
returns-then-not-has_its_reach g c =
    kept_first (g.R.Rules.protocol c.args.partitions) (reverse c.args.past.now) c.args.entry.now NotBegun (EarlyCommit ∷ CauselessCancel ∷ EarlyApply ∷ EarlyRelease ∷ EarlyDone ∷ EarlyForget ∷ IndexOrder ∷ AllCells ∷ []) c.names_begun.result c.if-not-names_begun.false (c.names_begun.ensures c.args.partitions c.args.entry.now.pass) AllCells
    (kept_first (g.R.Rules.protocol c.args.partitions) (reverse c.args.past.now) c.args.entry.now EarlyCommit (CauselessCancel ∷ EarlyApply ∷ EarlyRelease ∷ EarlyDone ∷ EarlyForget ∷ IndexOrder ∷ AllCells ∷ []) c.has_ground_for.result c.if-not-has_ground_for.false (c.has_ground_for.ensures c.args.partitions) AllCells
    (kept_first (g.R.Rules.protocol c.args.partitions) (reverse c.args.past.now) c.args.entry.now CauselessCancel (EarlyApply ∷ EarlyRelease ∷ EarlyDone ∷ EarlyForget ∷ IndexOrder ∷ AllCells ∷ []) c.has_ground_for-2.result c.if-not-has_ground_for-2.false (c.has_ground_for-2.ensures c.args.partitions) AllCells
    (kept_first (g.R.Rules.protocol c.args.partitions) (reverse c.args.past.now) c.args.entry.now EarlyApply (EarlyRelease ∷ EarlyDone ∷ EarlyForget ∷ IndexOrder ∷ AllCells ∷ []) c.applies_late.result c.if-not-applies_late.false (c.applies_late.ensures c.args.partitions c.args.entry.now.pass) AllCells
    (kept_first (g.R.Rules.protocol c.args.partitions) (reverse c.args.past.now) c.args.entry.now EarlyRelease (EarlyDone ∷ EarlyForget ∷ IndexOrder ∷ AllCells ∷ []) c.releases_late.result c.if-not-releases_late.false (c.releases_late.ensures c.args.partitions c.args.entry.now.pass) AllCells
    (kept_first (g.R.Rules.protocol c.args.partitions) (reverse c.args.past.now) c.args.entry.now EarlyDone (EarlyForget ∷ IndexOrder ∷ AllCells ∷ []) c.finishes_late.result c.if-not-finishes_late.false (c.finishes_late.ensures c.args.partitions c.args.entry.now.pass) AllCells
    (kept_first (g.R.Rules.protocol c.args.partitions) (reverse c.args.past.now) c.args.entry.now EarlyForget (IndexOrder ∷ AllCells ∷ []) c.forgets_late.result c.if-not-forgets_late.false (c.forgets_late.ensures c.args.partitions) AllCells
    (kept_first (g.R.Rules.protocol c.args.partitions) (reverse c.args.past.now) c.args.entry.now IndexOrder (AllCells ∷ []) c.feeds_in_order.result c.if-not-feeds_in_order.false (c.feeds_in_order.ensures c.args.entry.now.pass) AllCells
    (broken (g.R.Rules.protocol c.args.partitions) (reverse c.args.past.now) c.args.entry.now AllCells ([]) c.has_its_reach.result c.if-not-has_its_reach.true (c.has_its_reach.ensures c.args.partitions)))))))))

pub returns : goal.returns
returns g c =
    ((c.names_begun.ensures c.args.partitions c.args.entry.now.pass).0 c.if-not-names_begun.false, ((c.has_ground_for.ensures c.args.partitions).0 c.if-not-has_ground_for.false, ((c.has_ground_for-2.ensures c.args.partitions).0 c.if-not-has_ground_for-2.false, ((c.applies_late.ensures c.args.partitions c.args.entry.now.pass).0 c.if-not-applies_late.false, ((c.releases_late.ensures c.args.partitions c.args.entry.now.pass).0 c.if-not-releases_late.false, ((c.finishes_late.ensures c.args.partitions c.args.entry.now.pass).0 c.if-not-finishes_late.false, ((c.forgets_late.ensures c.args.partitions).0 c.if-not-forgets_late.false, ((c.feeds_in_order.ensures c.args.entry.now.pass).0 c.if-not-feeds_in_order.false, ((c.has_its_reach.ensures c.args.partitions).0 c.if-not-has_its_reach.false, tt)))))))))
