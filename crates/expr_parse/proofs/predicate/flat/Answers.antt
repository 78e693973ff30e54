use Rattle.std.proofs.Common.{◌∷◌, ◌∙◌}
use Rattle.expr_words.specs.Words.{meanings}
use Rattle.expr_words.specs.Machine.{ARest}
use Rattle.expr_words.proofs.Steps.{goes_along, part_operand, plain_level}
use Rattle.expr_parse.proofs.predicate.flat.Goals as goal

pub returns-in-None-clause-goes : goal.returns-in-None-clause-goes
returns-in-None-clause-goes c = λ not_deeper.
    goes_along _ _ _ _ _
    (λ os ks. part_operand (meanings c.args.words.now) c.args.levels os ks c.in-None.ensures.call not_deeper
    ∙ plain_level (meanings c.args.words.now) c.args.levels (ARest c.args.levels ∷ os) ks c.in-None.ensures.call)
    c.plain_predicate.ensures.goes
