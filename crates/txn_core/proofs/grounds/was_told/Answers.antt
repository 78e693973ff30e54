use Rattle.std.proofs.Common.{◌≡◌, true, arith, refl, Some}
use Rattle.txn_core.specs.History.{reason_of}
use Rattle.txn_core.specs.Legal.{prepares}
use Rattle.txn_core.proofs.Choices.{any_none_more, any_none_all, any_found}
use Rattle.txn_core.proofs.Basics.{true_false}
use Rattle.txn_core.proofs.grounds.was_told.Goals as goal

pub returns-then-refuses_with : goal.returns-then-refuses_with
returns-then-refuses_with g c =
    λ n. (
      λ _. any_found (λ e. (prepares (g.R.Rules.protocol n) c.args.number c.args.key.now e.message ≡ true) × (reason_of e.answer ≡ Some c.args.reason.now)) c.args.past.now c.loop-entry.entry-index c.entry-item.result c.loop-entry-test.true c.entry-item.is ((c.refuses_with.ensures n).0 c.if-refuses_with.true),
      λ _. refl,
    )

pub loop-entry-preserved : goal.loop-entry-preserved
loop-entry-preserved g c =
    λ n. any_none_more (λ e. (prepares (g.R.Rules.protocol n) c.args.number c.args.key.now e.message ≡ true) × (reason_of e.answer ≡ Some c.args.reason.now)) c.args.past.now c.loop-entry.entry-index c.entry-item.result c.loop-entry-test.true c.entry-item.is (c.loop-entry.invariant n)
    (λ h. true_false c.refuses_with.result ((c.refuses_with.ensures n).1 h) c.if-refuses_with.false)

pub returns : goal.returns
returns g c =
    λ n. (λ e. absurd (cc), λ any. absurd (any_none_all (λ e. (prepares (g.R.Rules.protocol n) c.args.number c.args.key.now e.message ≡ true) × (reason_of e.answer ≡ Some c.args.reason.now)) c.args.past.now c.loop-entry.entry-index (omega arith) (omega arith) (c.loop-entry.invariant n) any))
