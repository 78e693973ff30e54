use Rattle.expr_words.specs.Words.{meanings}
use Rattle.expr_words.proofs.Steps.{goes_along, plain_level}
use Rattle.expr_parse.proofs.operand.operand.Goals as goal

pub returns-in-None-clause-goes : goal.returns-in-None-clause-goes
returns-in-None-clause-goes c =
    goes_along _ _ _ _ _ (λ os ks. plain_level (meanings c.args.words.now) c.args.levels os ks c.in-None.ensures.call) c.plain_operand.ensures.goes
