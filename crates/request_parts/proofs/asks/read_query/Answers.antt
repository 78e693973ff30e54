use Rattle.std.proofs.Common.{◌≡◌, sym, ap, subst, ◌∙◌, Option, option_map, Result, Ok, OnOk}
use Rattle.api_form.specs.declared.name.Name.TheVariants as name
use Rattle.expr_words.specs.declared.tree.Condition.{Condition}
use Rattle.expr_words.specs.declared.tree.Paths.{Paths}
use Rattle.expr_words.specs.Trees.{tree}
use Rattle.std.proofs.lemmas.Result.{err_from_is_err_and}
use Rattle.request_parts.specs.declared.refusal.Refusal.{Refusal}
use Rattle.base_types.specs.declared.end.End.{End}
use Rattle.request_parts.specs.Ends.{IsToldAs}
use Rattle.request_parts.specs.Placeholders.{shown}
use Rattle.request_parts.specs.Expressions.{ConditionOf, PathsOf, WhereStated}
use Rattle.request_parts.specs.Asks.{lent, MarksText}
use Rattle.request_parts.specs.Trees.{StatesCondition}
use Rattle.request_parts.proofs.Asking.{query_second, query_third, query_ended}
use Rattle.request_parts.proofs.asks.read_query.Goals as goal

-- the key condition is read, and the filter is refused
pub returns-in_err-key_condition : goal.returns-in_err-key_condition
returns-in_err-key_condition c =
    let k = shown c.args.placeholders.now in
    let f = lent c.args.filter in
    let p = err_from_is_err_and c.from_residual-in_err-key_condition.result c.from_residual-in_err-key_condition.ensures.1 in
    rw (p.1, p.2)
    (query_second k c.args.key.now f (lent c.args.projection) c.in_ok-key.key c.in_err-key_condition.field-0.0 c.in_ok-key.ensures.told
    (subst (λ (x : Result (Option Condition) (End Refusal)). IsToldAs (option_map tree) (WhereStated (ConditionOf k name.FilterExpression) f) x)
    c.in_err-key_condition.ensures c.stated_condition-filter.ensures.told))

-- key condition and filter are read, and the projection is refused
pub returns-in_err-key_condition-2 : goal.returns-in_err-key_condition-2
returns-in_err-key_condition-2 c =
    let k = shown c.args.placeholders.now in
    let f = lent c.args.filter in
    let q = lent c.args.projection in
    let p = err_from_is_err_and c.from_residual-in_err-key_condition-2.result c.from_residual-in_err-key_condition-2.ensures.1 in
    rw (p.1, p.2)
    (query_third k c.args.key.now f q c.in_ok-key.key c.in_ok-key_condition.filter c.in_err-key_condition-2.field-0.0 c.in_ok-key.ensures.told
    (subst (λ (x : Result (Option Condition) (End Refusal)). IsToldAs (option_map tree) (WhereStated (ConditionOf k name.FilterExpression) f) x)
    c.in_ok-key_condition.ensures.1 c.stated_condition-filter.ensures.told)
    (subst (λ (x : Result (Option Paths) (End Refusal)). IsToldAs (option_map (λ (y : Paths). y.paths)) (WhereStated (PathsOf k name.ProjectionExpression) q) x)
    c.in_err-key_condition-2.ensures c.stated_paths-projection.ensures.told))

pub returns : goal.returns
returns c =
    let k = shown c.args.placeholders.now in
    let s = c.args.key.now in
    let f = lent c.args.filter in
    let p = lent c.args.projection in
    let after = c.read_condition.new.used in
    let mid = c.stated_condition-filter.new.used in
    let last = c.stated_paths-projection.new.used in
    let two = c.in_ok-key_condition in
    let three = c.in_ok-key_condition-2 in
    let key : three.key_condition ≡ c.in_ok-key.key = ap (λ (x : Condition × Option Condition). x.0) three.ensures.0 ∙ two.ensures.0 in
    let filter : three.filter ≡ two.filter = ap (λ (x : Condition × Option Condition). x.1) three.ensures.0 in
    query_ended k s f p
    (record { key_condition = three.key_condition; page = record { filter = three.filter; projection = three.projection } })
    c.in_ok-used.used after mid last c.all_used.result
    c.in_ok-used.ensures.made_for c.in_ok-used.ensures.unmarked c.in_ok-key.ensures.marks
    (subst (λ (x : Result (Option Condition) (End Refusal)). OnOk x (MarksText k.given f after mid)) two.ensures.1 c.stated_condition-filter.ensures.marks)
    (subst (λ (x : Result (Option Paths) (End Refusal)). OnOk x (MarksText k.given p mid last)) three.ensures.1 c.stated_paths-projection.ensures.marks)
    (subst (λ (x : Condition). ConditionOf k name.KeyConditionExpression s (Ok (tree x))) (sym key) c.in_ok-key.ensures.told)
    (subst (λ (x : Option Condition). StatesCondition k name.FilterExpression f x) (sym filter)
    (subst (λ (x : Result (Option Condition) (End Refusal)). IsToldAs (option_map tree) (WhereStated (ConditionOf k name.FilterExpression) f) x)
    two.ensures.1 c.stated_condition-filter.ensures.told))
    (subst (λ (x : Result (Option Paths) (End Refusal)). IsToldAs (option_map (λ (q : Paths). q.paths)) (WhereStated (PathsOf k name.ProjectionExpression) p) x)
    three.ensures.1 c.stated_paths-projection.ensures.told)
    c.all_used.ensures
