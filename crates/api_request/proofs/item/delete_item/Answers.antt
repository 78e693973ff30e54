use Rattle.std.proofs.Common.{ap, ◌∙◌}
use Rattle.std.proofs.lemmas.Result.{err_from_is_err_and}
use Rattle.serde_json.specs.View.{view}
use Rattle.api_form.specs.declared.name.Name.TheVariants as name
use Rattle.request_parts.specs.Parts.{condition_asks, StatesConditional}
use Rattle.api_request.specs.Items.{returns_named, StatesDeleteItem}
use Rattle.request_parts.proofs.Telling.{part_told}
use Rattle.api_request.proofs.item.delete_item.Goals as goal

pub returns-in_err-parts : goal.returns-in_err-parts
returns-in_err-parts c =
    let d = view c.args.json.now in
    let p = err_from_is_err_and c.from_residual.result c.from_residual.ensures.1 in
    rw (p.1, p.2) (part_told (condition_asks d) (StatesConditional name.Key d) (StatesDeleteItem d) c.in_err-parts.field-0.0 c.in_err-parts.ensures)

pub returns : goal.returns
returns c =
    let told = c.in_ok-parts.ensures in (
      record {
        table = told.0.table;
        key = told.0.item;
        condition = told.0.condition;
        values = told.0.values;
        return_values = c.returns_named.ensures ∙ ap returns_named c.text_at.ensures;
        show_old = c.shows_old.ensures;
        capacity = c.asks_capacity.ensures;
      },
      told.1,
    )
