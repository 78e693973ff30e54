use Rattle.std.proofs.Common.{sym, ◌∙◌, arith}
use Rattle.txn_core.specs.Legal.{feeds}
use Rattle.txn_core.proofs.Reversed.{one_passes, none_more, none_all}
use Rattle.txn_core.proofs.past.was_fed.Goals as goal

pub returns-then-feeds : goal.returns-then-feeds
returns-then-feeds g c = λ n. sym (one_passes (λ e. feeds (g.R.Rules.protocol n) c.args.source c.args.sequence e.message e.answer) c.args.past.now c.loop-entry.entry-index c.entry-item.result c.loop-entry-test.true c.entry-item.is (sym (c.feeds.ensures n) ∙ c.if-feeds.true))

pub loop-entry-preserved : goal.loop-entry-preserved
loop-entry-preserved g c =
    λ n. none_more (λ e. feeds (g.R.Rules.protocol n) c.args.source c.args.sequence e.message e.answer) c.args.past.now c.loop-entry.entry-index c.entry-item.result c.loop-entry-test.true c.entry-item.is (c.loop-entry.invariant n) (sym (c.feeds.ensures n) ∙ c.if-feeds.false)

pub returns : goal.returns
returns g c = λ n. none_all (λ e. feeds (g.R.Rules.protocol n) c.args.source c.args.sequence e.message e.answer) c.args.past.now c.loop-entry.entry-index (omega arith) (omega arith) (c.loop-entry.invariant n)
