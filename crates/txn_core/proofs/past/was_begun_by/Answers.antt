use Rattle.std.proofs.Common.{sym, ◌∙◌, arith}
use Rattle.txn_core.specs.History.{is_own_begin}
use Rattle.txn_core.proofs.Reversed.{one_passes, none_more, none_all}
use Rattle.txn_core.proofs.past.was_begun_by.Goals as goal

pub returns-then-is_own_begin : goal.returns-then-is_own_begin
returns-then-is_own_begin g c = sym (one_passes (is_own_begin c.args.pass c.args.number) c.args.past.now c.loop-entry.entry-index c.entry-item.result c.loop-entry-test.true c.entry-item.is (sym (c.is_own_begin.ensures) ∙ c.if-is_own_begin.true))

pub loop-entry-preserved : goal.loop-entry-preserved
loop-entry-preserved g c =
    none_more (is_own_begin c.args.pass c.args.number) c.args.past.now c.loop-entry.entry-index c.entry-item.result c.loop-entry-test.true c.entry-item.is (c.loop-entry.invariant) (sym (c.is_own_begin.ensures) ∙ c.if-is_own_begin.false)

pub returns : goal.returns
returns g c = none_all (is_own_begin c.args.pass c.args.number) c.args.past.now c.loop-entry.entry-index (omega arith) (omega arith) (c.loop-entry.invariant)
