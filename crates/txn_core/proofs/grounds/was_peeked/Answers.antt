use Rattle.std.proofs.Common.{sym, ap, ◌≡◌, ◌∙◌, arith, refl}
use Rattle.txn_core.specs.declared.message.Message.{Message}
use Rattle.txn_core.specs.declared.answer.Answer.{Answer}
use Rattle.txn_core.proofs.Choices.{any_none_more, any_none_all, any_found}
use Rattle.txn_core.proofs.Basics.{true_false}
use Rattle.txn_core.proofs.grounds.was_peeked.Goals as goal

pub returns-then-shows : goal.returns-then-shows
returns-then-shows g c = (
  λ _. any_found (λ e. (e.message ≡ Message.PeekOut c.args.source) × (e.answer ≡ Answer.Out c.args.sequence c.args.index ((g.R.Rules.protocol c.args.partitions).core.cell_of c.args.row_key.now) c.args.row_key.now c.args.after.now)) c.args.past.now c.loop-entry.entry-index c.entry-item.result c.loop-entry-test.true c.entry-item.is
      (let h = c.shows.ensures.0 c.if-shows.true in (h.0, h.1 ∙ ap (λ t. Answer.Out c.args.sequence c.args.index t c.args.row_key.now c.args.after.now) c.cell_of-target.ensures)),
  λ _. refl,
)

pub loop-entry-preserved : goal.loop-entry-preserved
loop-entry-preserved g c =
    any_none_more (λ e. (e.message ≡ Message.PeekOut c.args.source) × (e.answer ≡ Answer.Out c.args.sequence c.args.index ((g.R.Rules.protocol c.args.partitions).core.cell_of c.args.row_key.now) c.args.row_key.now c.args.after.now)) c.args.past.now c.loop-entry.entry-index c.entry-item.result c.loop-entry-test.true c.entry-item.is c.loop-entry.invariant
    (λ h. true_false c.shows.result (c.shows.ensures.1 (h.0, h.1 ∙ ap (λ t. Answer.Out c.args.sequence c.args.index t c.args.row_key.now c.args.after.now) (sym c.cell_of-target.ensures))) c.if-shows.false)

pub returns : goal.returns
returns g c = (λ e. absurd (cc), λ any. absurd (any_none_all (λ e. (e.message ≡ Message.PeekOut c.args.source) × (e.answer ≡ Answer.Out c.args.sequence c.args.index ((g.R.Rules.protocol c.args.partitions).core.cell_of c.args.row_key.now) c.args.row_key.now c.args.after.now)) c.args.past.now c.loop-entry.entry-index (omega arith) (omega arith) c.loop-entry.invariant any))
