use Rattle.std.proofs.Common.{◌≡◌, Some, sym, ap, ◌∙◌, rules}
use Rattle.std.proofs.lemmas.Result.{IfOk-weaker}
use Rattle.expr_words.specs.Trees.{tree}
use Rattle.key_condition.specs.Asked.{asked}
use Rattle.key_condition.specs.Range.{range_if, range_of}
use Rattle.key_condition.proofs.Truths.{has_keys_where_true}
use Rattle.key_condition.proofs.condition.range.Goals as goal

pub returns-in_default-clause-err : goal.returns-in_default-clause-err
unfolding range_of
returns-in_default-clause-err c = search rules

pub returns-clause-ok : goal.returns-clause-ok
unfolding range_of
returns-clause-ok c = search rules

pub returns-clause-err : goal.returns-clause-err
unfolding range_of
returns-clause-err c = search rules

pub returns-clause-truth : goal.returns-clause-truth
unfolding range_of
returns-clause-truth c =
    let schema = c.args.schema.now in
    let keys = c.args.keys.now in
    let values = c.args.values.now in
    let t = tree c.args.condition.now in
    let is : asked keys t ≡ Some c.in-Some.asked = sym c.asked_of.ensures ∙ c.in-Some.is in
    IfOk-weaker c.range_asked.result _ _ (λ range made. has_keys_where_true schema keys values t range (ap (range_if schema keys values t) is ∙ made)) c.range_asked.ensures.ok
