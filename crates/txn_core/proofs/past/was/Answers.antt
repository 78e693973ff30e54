use Rattle.std.proofs.Common.{sym, ◌∙◌, arith}
use Rattle.txn_core.specs.Replay.{tells}
use Rattle.txn_core.proofs.Reversed.{one_passes, none_more, none_all}
use Rattle.txn_core.proofs.past.was.Goals as goal

pub returns-then-tells : goal.returns-then-tells
returns-then-tells g c = sym (one_passes (λ e. tells c.args.fact c.args.number e.message e.answer) c.args.past.now c.loop-entry.entry-index c.entry-item.result c.loop-entry-test.true c.entry-item.is (sym (c.tells.ensures) ∙ c.if-tells.true))

pub loop-entry-preserved : goal.loop-entry-preserved
loop-entry-preserved g c =
    none_more (λ e. tells c.args.fact c.args.number e.message e.answer) c.args.past.now c.loop-entry.entry-index c.entry-item.result c.loop-entry-test.true c.entry-item.is (c.loop-entry.invariant) (sym (c.tells.ensures) ∙ c.if-tells.false)

pub returns : goal.returns
returns g c = none_all (λ e. tells c.args.fact c.args.number e.message e.answer) c.args.past.now c.loop-entry.entry-index (omega arith) (omega arith) (c.loop-entry.invariant)
