use Rattle.expr_words.specs.Trees.{tree}
use Rattle.expr_words.specs.Grammar.{IsCondition, most_levels}
use Rattle.expr_parse.specs.Reading.{NoFault, ReadsTokens, ReadsCondition, lexed}
use Rattle.expr_parse.proofs.Answering.{answer_along}
use Rattle.expr_parse.proofs.expression.read_condition.Goals as goal

pub returns-clause-answer : goal.returns-clause-answer
returns-clause-answer c =
    answer_along tree (ReadsTokens (IsCondition most_levels) NoFault NoFault c.args.given.now c.args.text.now c.in_ok-tokens.tokens)
    (ReadsCondition c.args.given.now c.args.text.now) (λ r h. lexed c.in_ok-tokens.ensures.room c.in_ok-tokens.ensures.lexes h)
    c.condition_of.result (rw c.as_slice.ensures at c.condition_of.ensures.answer)
