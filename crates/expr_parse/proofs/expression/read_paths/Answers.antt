use Rattle.std.proofs.Common.{List}
use Rattle.base_types.specs.declared.path.DocPath.{DocPath}
use Rattle.expr_words.specs.Grammar.{ArePaths}
use Rattle.expr_parse.specs.Reading.{NoFault, PathsFault, ReadsTokens, ReadsPaths, lexed}
use Rattle.expr_parse.proofs.Answering.{answer_along}
use Rattle.expr_parse.proofs.expression.read_paths.Goals as goal

pub returns-clause-answer : goal.returns-clause-answer
returns-clause-answer c =
    answer_along {C = List DocPath} (λ paths. paths) (ReadsTokens ArePaths NoFault PathsFault c.args.given.now c.args.text.now c.in_ok-tokens.tokens)
    (ReadsPaths c.args.given.now c.args.text.now) (λ r h. lexed c.in_ok-tokens.ensures.room c.in_ok-tokens.ensures.lexes h)
    c.paths_of.result (rw c.as_slice.ensures at c.paths_of.ensures.answer)
