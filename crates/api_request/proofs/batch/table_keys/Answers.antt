use Rattle.std.proofs.Common.{refl, Ok, Err}
use Rattle.std.proofs.lemmas.Result.{err_from_is_err_and}
use Rattle.serde_json.specs.View.{view}
use Rattle.api_form.specs.declared.name.Name.TheVariants as name
use Rattle.request_parts.specs.Members.{stated_text}
use Rattle.request_parts.specs.Placeholders.{known_names, shown}
use Rattle.request_parts.specs.Asks.{lent}
use Rattle.request_parts.specs.Trees.{StatesPaths}
use Rattle.request_parts.specs.Parts.{projection_asks}
use Rattle.api_request.specs.Batches.{StatesKeys}
use Rattle.request_parts.proofs.Same.{projection_at}
use Rattle.request_parts.proofs.Telling.{part_told}
use Rattle.api_request.proofs.batch.table_keys.Goals as goal

pub returns-in_err-projection : goal.returns-in_err-projection
returns-in_err-projection c =
    let d = view c.args.json.now in
    let text = stated_text name.ProjectionExpression d in
    let end = c.in_err-projection.field-0.0 in
    let p = err_from_is_err_and c.from_residual-in_err-projection.result c.from_residual-in_err-projection.ensures.1 in
    rw (p.1, p.2)
    (part_told (projection_asks d) (StatesPaths (known_names d) text) (StatesKeys c.args.table.now d) end
    (projection_at (shown c.in_ok-placeholders.placeholders) (known_names d) (lent c.stated_text-text.result) text (Err end)
    c.in_ok-placeholders.ensures.known c.stated_text-text.ensures c.in_err-projection.ensures))

pub returns : goal.returns
returns c =
    let d = view c.args.json.now in
    let told = projection_at (shown c.in_ok-placeholders.placeholders) (known_names d) (lent c.stated_text-text.result) (stated_text name.ProjectionExpression d)
    (Ok c.in_ok-projection.projection) c.in_ok-placeholders.ensures.known c.stated_text-text.ensures c.in_ok-projection.ensures in (
      record {
        named = c.in_ok-table.ensures;
        keys = rw c.list_at.ensures at c.in_ok-keys.ensures;
        projection = told.0;
        consistent = c.stated_flag.ensures;
        expression = c.in_ok-expression.ensures;
        names = c.in_ok-names.ensures;
        attributes = refl;
      },
      told.1,
    )
