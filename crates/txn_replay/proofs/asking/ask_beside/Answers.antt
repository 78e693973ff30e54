use Rattle.txn_replay.proofs.Asked.{beside_fed, beside_none}
use Rattle.txn_replay.proofs.asking.ask_beside.Goals as goal

pub returns-in_ok-answer-in-ApplyIndex : goal.returns-in_ok-answer-in-ApplyIndex
returns-in_ok-answer-in-ApplyIndex g c = λ n some.
    beside_fed (g.R.Rules.protocol n) (g.met.R.Rules.lawful n) c.args.catalog.now c.in-ApplyIndex._source c.in-ApplyIndex.sequence
    c.in-ApplyIndex.index c.in-ApplyIndex.row_key c.in-ApplyIndex._after c.args.message.now c.in-ApplyIndex.is
    c.in_ok-answer-in-ApplyIndex.answer (c.in_ok-answer-in-ApplyIndex.ensures n)

pub returns-in_default : goal.returns-in_default
returns-in_default g c = λ n some.
    beside_none (g.R.Rules.protocol n) c.args.catalog.now c.args.message.now c.in_default.not-ApplyIndex
