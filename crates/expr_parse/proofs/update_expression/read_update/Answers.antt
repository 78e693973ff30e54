use Rattle.std.proofs.lemmas.Result.{err_from_is_err_and}
use Rattle.expr_words.specs.Grammar.{IsUpdate, most_levels}
use Rattle.expr_parse.specs.Reading.{TwiceFault, ClausesFault, AsUpdate, ReadsTokens, ReadsClauses, ReadsUpdate, lexed}
use Rattle.expr_parse.specs.Update.{update_tree}
use Rattle.expr_parse.proofs.Answering.{answer_along, as_update_along, update_told}
use Rattle.expr_parse.proofs.update_expression.read_update.Goals as goal

pub returns-in_err-tokens-clause-answer : goal.returns-in_err-tokens-clause-answer
returns-in_err-tokens-clause-answer c =
    let p = err_from_is_err_and c.from_residual.result c.from_residual.ensures.1 in
    rw (p.1, p.2) (update_told c.args.given.now c.args.text.now c.in_err-tokens.field-0.0 c.in_err-tokens.ensures)

pub returns-clause-answer : goal.returns-clause-answer
returns-clause-answer c =
    let tokens = ReadsTokens (IsUpdate most_levels) TwiceFault ClausesFault c.args.given.now c.args.text.now c.in_ok-tokens.tokens in
    answer_along update_tree (AsUpdate tokens) (ReadsUpdate c.args.given.now c.args.text.now)
    (as_update_along tokens (ReadsClauses c.args.given.now c.args.text.now) (λ r h. lexed c.in_ok-tokens.ensures.room c.in_ok-tokens.ensures.lexes h))
    c.update_of.result (rw c.as_slice.ensures at c.update_of.ensures.answer)
