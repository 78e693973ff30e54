use Rattle.std.proofs.Common.{◌≡◌, List, Ok, Err, sym, subst, option_map}
use Rattle.base_types.specs.declared.path.DocPath.{DocPath}
use Rattle.expr_words.specs.Words.{Word, words, meanings, fault_of}
use Rattle.expr_words.specs.Grammar.{ArePaths}
use Rattle.expr_parse.specs.Reading.{NoFault, PathsFault, IsVerdict, ReadsTokens}
use Rattle.expr_parse.proofs.Answering.{IsJudged, paths_judged, fit_verdict, answer_along, spelled_along, told_stop}
use Rattle.expr_parse.proofs.expression.paths_of.Goals as goal

pub returns-in-Ok-whole_paths-clause-answer : goal.returns-in-Ok-whole_paths-clause-answer
returns-in-Ok-whole_paths-clause-answer c =
    let same : meanings c.as_slice.result.now ≡ words c.args.given.now c.args.text.now c.args.tokens.now = rw c.as_slice.ensures.value c.in-Ok.ensures.words in
    let paths = c.in-Ok-whole_paths.paths in
    let spells : List Word → Type 0 = λ ts. ArePaths ts paths in
    answer_along {C = List DocPath} (λ paths. paths) (IsVerdict NoFault PathsFault (option_map fault_of c.in-Ok.reading.undefined) paths)
    (ReadsTokens ArePaths NoFault PathsFault c.args.given.now c.args.text.now c.args.tokens.now)
    (spelled_along ArePaths NoFault PathsFault c.args.given.now c.args.text.now c.args.tokens.now paths c.in-Ok.reading.undefined
    (subst spells same (paths_judged (meanings c.as_slice.result.now) (Ok paths) c.in-Ok-whole_paths.ensures)) (sym c.in-Ok.ensures.undefined))
    c.fit.result (fit_verdict paths c.in-Ok.reading.undefined c.fit.result c.fit.ensures)

pub returns-clause-answer : goal.returns-clause-answer
returns-clause-answer c =
    let same : meanings c.as_slice.result.now ≡ words c.args.given.now c.args.text.now c.args.tokens.now = rw c.as_slice.ensures.value c.in-Ok.ensures.words in
    let judged : List Word → Type 0 = λ ts. IsJudged {C = List DocPath} (λ paths. paths) ArePaths ts (Err c.in-Err-whole_paths.stop) in
    rw c.told.ensures
    (told_stop {C = List DocPath} (λ paths. paths) ArePaths NoFault PathsFault c.args.given.now c.args.text.now c.args.tokens.now c.in-Err-whole_paths.stop
    (subst judged same (paths_judged (meanings c.as_slice.result.now) (Err c.in-Err-whole_paths.stop) c.in-Err-whole_paths.ensures)))
