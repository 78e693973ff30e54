use Rattle.expr_words.specs.Words.{meanings}
use Rattle.expr_words.proofs.Steps.{goes_along, plain_term_level}
use Rattle.expr_parse.proofs.term.+term.Goals as goal

pub term-returns-in-None-clause-goes : goal.term-returns-in-None-clause-goes
term-returns-in-None-clause-goes t c =
    goes_along _ _ _ _ _ (λ os ks. plain_term_level (meanings c.args.words.now) c.args.levels os ks c.in-None.ensures.call) c.plain_term.ensures.goes
