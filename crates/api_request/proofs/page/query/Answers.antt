use Rattle.std.proofs.Common.{Ok, Err, sym, ap, subst, map, ◌∙◌, rules}
use Rattle.std.proofs.lemmas.Result.{err_from_is_err_and}
use Rattle.serde_json.specs.View.{view}
use Rattle.api_form.specs.declared.name.Name.TheVariants as name
use Rattle.attr_value.specs.View.{tree_of}
use Rattle.api_request.specs.declared.page.Rows.{Rows}
use Rattle.request_parts.specs.Members.{stated_text, text_at}
use Rattle.request_parts.specs.Placeholders.{known, shown}
use Rattle.request_parts.specs.Asks.{lent}
use Rattle.request_parts.specs.Trees.{AreQueryTrees, StatesCondition, StatesPaths}
use Rattle.api_request.specs.Pages.{query_asks, StatesQuery}
use Rattle.request_parts.proofs.Telling.{part_told}
use Rattle.request_parts.proofs.Same.{query_at}
use Rattle.api_request.proofs.page.query.Goals as goal

pub returns-in_err-trees : goal.returns-in_err-trees
returns-in_err-trees c =
    let d = view c.args.json.now in
    let key = text_at name.KeyConditionExpression d in
    let filter = stated_text name.FilterExpression d in
    let projection = stated_text name.ProjectionExpression d in
    let end = c.in_err-trees.field-0.0 in
    let p = err_from_is_err_and c.from_residual-in_err-trees.result c.from_residual-in_err-trees.ensures.1 in
    rw (p.1, p.2)
    (part_told (query_asks d) (AreQueryTrees (known d) key filter projection) (StatesQuery d) end
    (query_at (shown c.in_ok-placeholders.placeholders) (known d) c.text_at-key.result.now key (lent c.stated_text-filter.result) filter
    (lent c.stated_text-projection.result) projection (Err end)
    c.in_ok-placeholders.ensures.known c.text_at-key.ensures c.stated_text-filter.ensures c.stated_text-projection.ensures c.in_err-trees.ensures))

pub returns : goal.returns
returns c =
    let d = view c.args.json.now in
    let key = text_at name.KeyConditionExpression d in
    let filter = stated_text name.FilterExpression d in
    let projection = stated_text name.ProjectionExpression d in
    let made = c.page_of.ensures in
    let told = query_at (shown c.in_ok-placeholders.placeholders) (known d) c.text_at-key.result.now key (lent c.stated_text-filter.result) filter
    (lent c.stated_text-projection.result) projection (Ok c.in_ok-trees.trees)
    c.in_ok-placeholders.ensures.known c.text_at-key.ensures c.stated_text-filter.ensures c.stated_text-projection.ensures c.in_ok-trees.ensures in (
      record {
        page = record {
          table = made.table ∙ ap (λ (x : Rows). x.table) c.in_ok-rows.ensures;
          index = made.index ∙ ap (λ (x : Rows). x.index) c.in_ok-rows.ensures;
          filter = subst (λ x. StatesCondition (known d) name.FilterExpression filter x) (sym made.filter) told.0.page.filter;
          projection = subst (λ x. StatesPaths (known d) projection x) (sym made.projection) told.0.page.projection;
          values = ap (map tree_of) made.values ∙ c.in_ok-placeholders.ensures.values;
          select = made.select ∙ ap (λ (x : Rows). x.select) c.in_ok-rows.ensures;
          limit = made.limit ∙ ap (λ (x : Rows). x.limit) c.in_ok-rows.ensures;
          start = made.start ∙ ap (λ (x : Rows). x.start) c.in_ok-rows.ensures;
          consistent = made.consistent ∙ ap (λ (x : Rows). x.consistent) c.in_ok-rows.ensures;
          capacity = made.capacity ∙ ap (λ (x : Rows). x.capacity) c.in_ok-rows.ensures;
        };
        key_condition = told.0.key;
        forward = search rules;
      },
      told.1,
    )
