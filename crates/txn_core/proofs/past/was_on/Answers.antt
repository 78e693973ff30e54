use Rattle.std.proofs.Common.{sym, ◌∙◌, arith}
use Rattle.txn_core.specs.Replay.{tells_on}
use Rattle.txn_core.proofs.Reversed.{one_passes, none_more, none_all}
use Rattle.txn_core.proofs.past.was_on.Goals as goal

pub returns-then-tells_on : goal.returns-then-tells_on
returns-then-tells_on g c = λ n. sym (one_passes (λ e. tells_on (g.R.Rules.protocol n) c.args.fact c.args.number c.args.key.now e.message e.answer) c.args.past.now c.loop-entry.entry-index c.entry-item.result c.loop-entry-test.true c.entry-item.is (sym (c.tells_on.ensures n) ∙ c.if-tells_on.true))

pub loop-entry-preserved : goal.loop-entry-preserved
loop-entry-preserved g c =
    λ n. none_more (λ e. tells_on (g.R.Rules.protocol n) c.args.fact c.args.number c.args.key.now e.message e.answer) c.args.past.now c.loop-entry.entry-index c.entry-item.result c.loop-entry-test.true c.entry-item.is (c.loop-entry.invariant n) (sym (c.tells_on.ensures n) ∙ c.if-tells_on.false)

pub returns : goal.returns
returns g c = λ n. none_all (λ e. tells_on (g.R.Rules.protocol n) c.args.fact c.args.number c.args.key.now e.message e.answer) c.args.past.now c.loop-entry.entry-index (omega arith) (omega arith) (c.loop-entry.invariant n)
