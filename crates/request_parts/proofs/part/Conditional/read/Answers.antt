use Rattle.std.proofs.Common.{refl, None, Ok, Err}
use Rattle.std.proofs.lemmas.Result.{err_from_is_err_and}
use Rattle.serde_json.specs.View.{view}
use Rattle.api_form.specs.declared.name.Name.TheVariants as name
use Rattle.request_parts.specs.Members.{stated_text}
use Rattle.request_parts.specs.Placeholders.{known, shown}
use Rattle.request_parts.specs.Asks.{lent}
use Rattle.request_parts.specs.Trees.{AreWriteTrees}
use Rattle.request_parts.specs.Parts.{condition_asks, StatesConditional}
use Rattle.request_parts.proofs.Same.{write_at}
use Rattle.request_parts.proofs.Telling.{part_told}
use Rattle.request_parts.proofs.part.Conditional.read.Goals as goal

pub returns-in_err-trees : goal.returns-in_err-trees
returns-in_err-trees c =
    let d = view c.args.json.now in
    let text = stated_text name.ConditionExpression d in
    let end = c.in_err-trees.field-0.0 in
    let p = err_from_is_err_and c.from_residual-in_err-trees.result c.from_residual-in_err-trees.ensures.1 in
    rw (p.1, p.2)
    (part_told (condition_asks d) (AreWriteTrees (known d) None text) (StatesConditional c.args.member d) end
    (write_at (shown c.in_ok-placeholders.placeholders) (known d) None None (lent c.stated_text-condition.result) text (Err end)
    c.in_ok-placeholders.ensures.known refl c.stated_text-condition.ensures c.in_err-trees.ensures))

pub returns : goal.returns
returns c =
    let d = view c.args.json.now in
    let text = stated_text name.ConditionExpression d in
    let told = write_at (shown c.in_ok-placeholders.placeholders) (known d) None None (lent c.stated_text-condition.result) text (Ok c.in_ok-trees.trees)
    c.in_ok-placeholders.ensures.known refl c.stated_text-condition.ensures c.in_ok-trees.ensures in (
      record {
        table = c.in_ok-placed.ensures.table;
        item = c.in_ok-placed.ensures.item;
        condition = told.0.condition;
        values = c.in_ok-placeholders.ensures.values;
      },
      told.1,
    )
