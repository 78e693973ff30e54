use Rattle.expr_words.specs.Words.{meanings}
use Rattle.expr_words.proofs.Steps.{goes_along, term_path}
use Rattle.expr_parse.proofs.term.plain_term.Goals as goal

pub returns-in-None-clause-goes : goal.returns-in-None-clause-goes
returns-in-None-clause-goes c =
    goes_along _ _ _ _ _ (λ os ks. term_path (meanings c.args.words.now) 0 os ks c.requires c.in-None.ensures.value) c.path_term.ensures.goes
