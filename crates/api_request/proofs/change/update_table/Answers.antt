use Rattle.std.proofs.Common.{ap, ◌∙◌}
use Rattle.std.proofs.lemmas.Result.{err_from_is_err_and}
use Rattle.serde_json.specs.View.{view, items_view}
use Rattle.request_parts.specs.Members.{each}
use Rattle.api_request.specs.Schemas.{definition}
use Rattle.api_request.proofs.Changes.{change_stated, change_refused}
use Rattle.api_request.proofs.change.update_table.Goals as goal

pub returns-in_err-index : goal.returns-in_err-index
returns-in_err-index c =
    let p = err_from_is_err_and c.from_residual-in_err-index.result c.from_residual-in_err-index.ensures.1 in
    rw (p.1, p.2)
    (change_refused (view c.args.json.now) (items_view c.list_at-2.result.now) c.in_ok-stated.stated c.in_err-index.field-0.0
    c.in_ok-stated.ensures c.list_at-2.ensures c.in_err-index.ensures)

pub returns : goal.returns
returns c = (
  c.in_ok-table.ensures,
  record {
    definitions = c.in_ok-definitions.ensures ∙ ap (each definition) c.list_at.ensures;
    billing = c.on_demand.ensures;
    read_units = c.units_of.ensures;
    write_units = c.units_of-2.ensures;
    index = change_stated (view c.args.json.now) (items_view c.list_at-2.result.now) c.in_ok-stated.stated c.in_ok-index.index
        c.in_ok-stated.ensures c.list_at-2.ensures c.in_ok-index.ensures;
  },
)
