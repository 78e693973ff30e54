use Rattle.expr_lexer.proofs.Steps.{step_token, step_long, rest_is}
use Rattle.expr_lexer.proofs.lexer.step_over.Goals as goal

pub returns-then-too_long-clause-steps : goal.returns-then-too_long-clause-steps
returns-then-too_long-clause-steps c = step_long _ _ c.args.found c.requires.begun c.requires.found (cc)

pub returns-clause-steps : goal.returns-clause-steps
returns-clause-steps c = λ reading reads.
    step_token _ _ _ c.args.found reading c.requires.begun c.requires.found (cc) (rest_is c.args.bytes.now c.args.found.size) reads
