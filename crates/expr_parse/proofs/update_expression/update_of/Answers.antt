use Rattle.std.proofs.Common.{◌≡◌, List, Ok, Err, sym, subst, map, option_map}
use Rattle.expr_words.specs.Trees.{section_tree}
use Rattle.expr_words.specs.Words.{Word, words, meanings, fault_of}
use Rattle.expr_words.specs.Grammar.{IsUpdate, most_levels}
use Rattle.expr_parse.specs.Reading.{TwiceFault, ClausesFault, AsUpdate, IsVerdict, ReadsTokens}
use Rattle.expr_parse.specs.Update.{update_tree}
use Rattle.expr_parse.proofs.Answering.{IsJudged, clauses_judged, answer_along, as_update_along, spelled_along, told_stop_update}
use Rattle.expr_parse.proofs.update_expression.update_of.Goals as goal

pub returns-in-Ok-whole_update-clause-answer : goal.returns-in-Ok-whole_update-clause-answer
returns-in-Ok-whole_update-clause-answer c =
    let same : meanings c.as_slice.result.now ≡ words c.args.given.now c.args.text.now c.args.tokens.now = rw c.as_slice.ensures.value c.in-Ok.ensures.words in
    let cs = map section_tree c.in-Ok-whole_update.sections in
    let spells : List Word → Type 0 = λ ts. IsUpdate most_levels ts cs in
    let verdict = IsVerdict TwiceFault ClausesFault (option_map fault_of c.in-Ok.reading.undefined) cs in
    let tokens = ReadsTokens (IsUpdate most_levels) TwiceFault ClausesFault c.args.given.now c.args.text.now c.args.tokens.now in
    answer_along update_tree (AsUpdate verdict) (AsUpdate tokens)
    (as_update_along verdict tokens
    (spelled_along (IsUpdate most_levels) TwiceFault ClausesFault c.args.given.now c.args.text.now c.args.tokens.now cs c.in-Ok.reading.undefined
    (subst spells same (clauses_judged (meanings c.as_slice.result.now) (Ok c.in-Ok-whole_update.sections) c.in-Ok-whole_update.ensures))
    (sym c.in-Ok.ensures.undefined)))
    c.judged.result c.judged.ensures

pub returns-clause-answer : goal.returns-clause-answer
returns-clause-answer c =
    let same : meanings c.as_slice.result.now ≡ words c.args.given.now c.args.text.now c.args.tokens.now = rw c.as_slice.ensures.value c.in-Ok.ensures.words in
    let judged : List Word → Type 0 = λ ts. IsJudged (map section_tree) (IsUpdate most_levels) ts (Err c.in-Err-whole_update.stop) in
    rw c.told.ensures
    (told_stop_update c.args.given.now c.args.text.now c.args.tokens.now c.in-Err-whole_update.stop
    (subst judged same (clauses_judged (meanings c.as_slice.result.now) (Err c.in-Err-whole_update.stop) c.in-Err-whole_update.ensures)))
