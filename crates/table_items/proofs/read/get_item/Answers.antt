use Rattle.std.proofs.Common.{sym, ap, ◌∙◌}
use Rattle.std.proofs.lemmas.Result.{IfOk-weaker}
use Rattle.item_keys.specs.ItemKey.{key_alone}
use Rattle.table_model.specs.Reads.{told_read}
use Rattle.table_items.specs.Outcomes.{row_key_if}
use Rattle.table_items.proofs.Steps.{get_told, get_refused}
use Rattle.table_items.proofs.read.get_item.Goals as goal

pub returns-in-Err : goal.returns-in-Err
returns-in-Err c =
    get_refused c.args.request.now c.args.table.now c.in-Err.fault
    (sym c.in-Err.is ∙ c.in_ok-key.ensures ∙ (λ i. row_key_if (key_alone (c.schema.ensures i) (c.schema.ensures i).keys c.args.request.now.key)))

pub returns-in-Ok : goal.returns-in-Ok
returns-in-Ok c =
    IfOk-weaker c.told_read.result _ _
    (λ reply told.
    get_told c.args.request.now c.args.table.now c.in-Ok.key reply
    (sym c.in-Ok.is ∙ c.in_ok-key.ensures ∙ (λ i. row_key_if (key_alone (c.schema.ensures i) (c.schema.ensures i).keys c.args.request.now.key)))
    (told ∙ ap (told_read c.args.request.now) c.get.ensures))
    c.told_read.ensures
