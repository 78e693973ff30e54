use Rattle.std.proofs.Common.{◌∙◌}
use Rattle.expr_words.specs.Words.{meanings}
use Rattle.expr_words.proofs.Steps.{goes_along, choices_end}
use Rattle.expr_parse.proofs.choice.choices.Goals as goal

pub returns-clause-goes : goal.returns-clause-goes
returns-clause-goes c = goes_along _ _ _ _ _
    (λ os ks. c.loop-after.invariant.reading os ks ∙ choices_end (meanings c.loop-after.rest.now) c.args.levels c.loop-after.left c.loop-after.choices os ks c.in_default.ensures.comma)
    c.closed.ensures.goes
