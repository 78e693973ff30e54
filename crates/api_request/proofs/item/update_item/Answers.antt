use Rattle.std.proofs.Common.{ap, ◌∙◌, Ok, Err}
use Rattle.std.proofs.lemmas.Result.{err_from_is_err_and}
use Rattle.serde_json.specs.View.{view}
use Rattle.api_form.specs.declared.name.Name.TheVariants as name
use Rattle.request_parts.specs.Members.{stated_text}
use Rattle.request_parts.specs.Placeholders.{known, shown}
use Rattle.request_parts.specs.Asks.{lent}
use Rattle.request_parts.specs.Trees.{AreWriteTrees}
use Rattle.api_request.specs.Items.{returns_named, update_asks, StatesUpdateItem}
use Rattle.request_parts.proofs.Same.{write_at}
use Rattle.request_parts.proofs.Telling.{part_told}
use Rattle.api_request.proofs.item.update_item.Goals as goal

pub returns-in_err-trees : goal.returns-in_err-trees
returns-in_err-trees c =
    let d = view c.args.json.now in
    let update = stated_text name.UpdateExpression d in
    let condition = stated_text name.ConditionExpression d in
    let end = c.in_err-trees.field-0.0 in
    let p = err_from_is_err_and c.from_residual-in_err-trees.result c.from_residual-in_err-trees.ensures.1 in
    rw (p.1, p.2)
    (part_told (update_asks d) (AreWriteTrees (known d) update condition) (StatesUpdateItem d) end
    (write_at (shown c.in_ok-placeholders.placeholders) (known d) (lent c.stated_text-update.result) update (lent c.stated_text-condition.result) condition (Err end)
    c.in_ok-placeholders.ensures.known c.stated_text-update.ensures c.stated_text-condition.ensures c.in_err-trees.ensures))

pub returns : goal.returns
returns c =
    let d = view c.args.json.now in
    let told = write_at (shown c.in_ok-placeholders.placeholders) (known d) (lent c.stated_text-update.result) (stated_text name.UpdateExpression d)
    (lent c.stated_text-condition.result) (stated_text name.ConditionExpression d) (Ok c.in_ok-trees.trees)
    c.in_ok-placeholders.ensures.known c.stated_text-update.ensures c.stated_text-condition.ensures c.in_ok-trees.ensures in (
      record {
        table = c.in_ok-placed.ensures.table;
        key = c.in_ok-placed.ensures.item;
        update = told.0.update;
        condition = told.0.condition;
        values = c.in_ok-placeholders.ensures.values;
        return_values = c.returns_named.ensures ∙ ap returns_named c.text_at.ensures;
        show_old = c.shows_old.ensures;
        capacity = c.asks_capacity.ensures;
      },
      told.1,
    )
