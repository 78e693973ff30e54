use Rattle.expr_lexer.proofs.Steps.{step_end, step_blank, step_bad, none_left, front_and_rest}
use Rattle.expr_lexer.proofs.lexer.step.Goals as goal

pub returns-in-empty-clause-steps : goal.returns-in-empty-clause-steps
returns-in-empty-clause-steps c = step_end _ _ (none_left _ c.in-empty.len_below)

pub returns-in-len1-up-clause-steps : goal.returns-in-len1-up-clause-steps
returns-in-len1-up-clause-steps c = λ reading reads. step_blank _ _ _ _ reading (front_and_rest _ c.in-len1-up.len_at_least) (cc) reads

pub returns-in-None-clause-steps : goal.returns-in-None-clause-steps
returns-in-None-clause-steps c = step_bad _ _
    (record { byte = _; rest = _; bytes_are = front_and_rest _ c.in-len1-up.len_at_least; no_blank = (cc) }) (cc c.lexeme_at.ensures.value)
