use Rattle.std.proofs.Common.{refl, sym, ◌∙◌}
use Rattle.std.specs.Option.{option_copied}
use Rattle.std.proofs.lemmas.Result.{IfOk-weaker}
use Rattle.item_keys.specs.ItemKey.{key_alone}
use Rattle.table_items.specs.Outcomes.{row_key_if}
use Rattle.table_items.specs.Steps.{update_of}
use Rattle.table_items.proofs.Steps.{update_done, update_refused}
use Rattle.table_items.proofs.write.update.Goals as goal

pub returns-in-Ok-clause-done : goal.returns-in-Ok-clause-done
returns-in-Ok-clause-done c =
    let is =
    sym c.in-Ok.is ∙ c.in_ok-row.ensures ∙ (λ i. row_key_if (key_alone (c.schema.ensures i) (c.schema.ensures i).keys c.args.key)) in
    IfOk-weaker c.update_at.result _ _
    (λ reply made.
    update_done (update_of c.args.key (option_copied c.args.update) (option_copied c.args.condition) c.args.values.now c.args.telling) c.args.table.now
    c.update_at.new.table c.in-Ok.row reply c.requires is made)
    c.update_at.ensures.done

pub returns-in-Err-clause-done : goal.returns-in-Err-clause-done
returns-in-Err-clause-done c =
    let is =
    sym c.in-Err.is ∙ c.in_ok-row.ensures ∙ (λ i. row_key_if (key_alone (c.schema.ensures i) (c.schema.ensures i).keys c.args.key)) in
    update_refused (update_of c.args.key (option_copied c.args.update) (option_copied c.args.condition) c.args.values.now c.args.telling) c.args.table.now
    c.args.table.now c.in-Err.fault c.invalid.result c.requires is (refl, c.invalid.ensures)
