use Rattle.expr_words.proofs.Resolve.{keeps_next, keeps_all, keeps_marks}
use Rattle.expr_words.proofs.meaning.words.Goals as goal

pub loop-token-preserved : goal.loop-token-preserved
loop-token-preserved c =
    keeps_next c.args.given.now c.args.text.now c.args.tokens.now c.loop-token.token-index _ c.meaning.result.0 c.meaning.result.1 c.loop-token.invariant
    c.loop-token-test.true c.word.ensures c.in_ok-push.ensures.items c.or-undefined.ensures c.meaning.ensures.word c.meaning.ensures.missing
    c.meaning.ensures.names c.meaning.ensures.values c.meaning.ensures.made_for

pub returns-clause-marks : goal.returns-clause-marks
returns-clause-marks c =
    keeps_marks (keeps_all c.args.given.now c.args.text.now c.args.tokens.now c.loop-token.token-index c.loop-token-test.false c.loop-token.invariant)
