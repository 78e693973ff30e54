use Rattle.expr_lexer.proofs.Unique
use Rattle.expr_lexer.proofs.lexer.one_reading.Goals as goal

pub returns : goal.returns
returns c = λ text reading another l m. Unique.one_reading l m
