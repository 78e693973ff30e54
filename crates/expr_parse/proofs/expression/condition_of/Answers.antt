use Rattle.std.proofs.Common.{◌≡◌, List, Ok, Err, sym, refl, subst, option_map}
use Rattle.expr_words.specs.Trees.{tree}
use Rattle.expr_words.specs.Words.{Word, words, meanings, fault_of}
use Rattle.expr_words.specs.Grammar.{IsCondition, most_levels}
use Rattle.expr_parse.specs.Reading.{NoFault, IsVerdict, ReadsTokens}
use Rattle.expr_parse.proofs.Answering.{IsJudged, condition_judged, given_verdict, answer_along, spelled_along, told_stop}
use Rattle.expr_parse.proofs.expression.condition_of.Goals as goal

pub returns-in-Ok-whole_condition-clause-answer : goal.returns-in-Ok-whole_condition-clause-answer
returns-in-Ok-whole_condition-clause-answer c =
    let same : meanings c.as_slice.result.now ≡ words c.args.given.now c.args.text.now c.args.tokens.now = rw c.as_slice.ensures.value c.in-Ok.ensures.words in
    let t = tree c.in-Ok-whole_condition.condition in
    let spells : List Word → Type 0 = λ ts. IsCondition most_levels ts t in
    answer_along tree (IsVerdict NoFault NoFault (option_map fault_of c.in-Ok.reading.undefined) t)
    (ReadsTokens (IsCondition most_levels) NoFault NoFault c.args.given.now c.args.text.now c.args.tokens.now)
    (spelled_along (IsCondition most_levels) NoFault NoFault c.args.given.now c.args.text.now c.args.tokens.now t c.in-Ok.reading.undefined
    (subst spells same (condition_judged (meanings c.as_slice.result.now) (Ok c.in-Ok-whole_condition.condition) c.in-Ok-whole_condition.ensures))
    (sym c.in-Ok.ensures.undefined))
    c.with_given.result
    (given_verdict tree NoFault NoFault c.in-Ok-whole_condition.condition c.in-Ok.reading.undefined c.with_given.result refl refl c.with_given.ensures)

pub returns-clause-answer : goal.returns-clause-answer
returns-clause-answer c =
    let same : meanings c.as_slice.result.now ≡ words c.args.given.now c.args.text.now c.args.tokens.now = rw c.as_slice.ensures.value c.in-Ok.ensures.words in
    let judged : List Word → Type 0 = λ ts. IsJudged tree (IsCondition most_levels) ts (Err c.in-Err-whole_condition.stop) in
    rw c.told.ensures
    (told_stop tree (IsCondition most_levels) NoFault NoFault c.args.given.now c.args.text.now c.args.tokens.now c.in-Err-whole_condition.stop
    (subst judged same (condition_judged (meanings c.as_slice.result.now) (Err c.in-Err-whole_condition.stop) c.in-Err-whole_condition.ensures)))
