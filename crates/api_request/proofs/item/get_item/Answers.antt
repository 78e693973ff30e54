use Rattle.std.proofs.lemmas.Result.{err_from_is_err_and}
use Rattle.serde_json.specs.View.{view}
use Rattle.request_parts.specs.Parts.{projection_asks, StatesProjected}
use Rattle.api_request.specs.Items.{StatesGetItem}
use Rattle.request_parts.proofs.Telling.{part_told}
use Rattle.api_request.proofs.item.get_item.Goals as goal

pub returns-in_err-parts : goal.returns-in_err-parts
returns-in_err-parts c =
    let d = view c.args.json.now in
    let p = err_from_is_err_and c.from_residual.result c.from_residual.ensures.1 in
    rw (p.1, p.2) (part_told (projection_asks d) (StatesProjected d) (StatesGetItem d) c.in_err-parts.field-0.0 c.in_err-parts.ensures)

pub returns : goal.returns
returns c =
    let told = c.in_ok-parts.ensures in (
      record {
        table = told.0.table;
        key = told.0.key;
        projection = told.0.projection;
        consistent = c.flag_at.ensures;
        capacity = c.asks_capacity.ensures;
      },
      told.1,
    )
