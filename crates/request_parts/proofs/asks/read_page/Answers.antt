use Rattle.std.proofs.Common.{sym, subst, Option, option_map, Result, OnOk}
use Rattle.api_form.specs.declared.name.Name.TheVariants as name
use Rattle.expr_words.specs.declared.tree.Condition.{Condition}
use Rattle.expr_words.specs.declared.tree.Paths.{Paths}
use Rattle.request_parts.specs.declared.refusal.Refusal.{Refusal}
use Rattle.base_types.specs.declared.end.End.{End}
use Rattle.request_parts.specs.Ends.{IsToldAs}
use Rattle.request_parts.specs.Placeholders.{shown}
use Rattle.request_parts.specs.Expressions.{PathsOf, WhereStated}
use Rattle.request_parts.specs.Asks.{lent, MarksText}
use Rattle.request_parts.specs.Trees.{StatesCondition}
use Rattle.request_parts.proofs.Asking.{page_ended}
use Rattle.request_parts.proofs.asks.read_page.Goals as goal

pub returns : goal.returns
returns c =
    let k = shown c.args.placeholders.now in
    let f = lent c.args.filter in
    let p = lent c.args.projection in
    let mid = c.stated_condition.new.used in
    let last = c.stated_paths-projection.new.used in
    let joined = c.in_ok-filter-2.ensures in
    page_ended k f p (record { filter = c.in_ok-filter-2.filter; projection = c.in_ok-filter-2.projection }) c.in_ok-used.used mid last c.all_used.result
    c.in_ok-used.ensures.made_for c.in_ok-used.ensures.unmarked c.in_ok-filter.ensures.marks
    (subst (λ (x : Result (Option Paths) (End Refusal)). OnOk x (MarksText k.given p mid last)) joined.1 c.stated_paths-projection.ensures.marks)
    (subst (λ (x : Option Condition). StatesCondition k name.FilterExpression f x) (sym joined.0) c.in_ok-filter.ensures.told)
    (subst (λ (x : Result (Option Paths) (End Refusal)). IsToldAs (option_map (λ (q : Paths). q.paths)) (WhereStated (PathsOf k name.ProjectionExpression) p) x)
    joined.1 c.stated_paths-projection.ensures.told)
    c.all_used.ensures
