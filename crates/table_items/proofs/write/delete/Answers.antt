use Rattle.std.proofs.Common.{refl, sym, ◌∙◌}
use Rattle.std.specs.Option.{option_copied}
use Rattle.std.proofs.lemmas.Result.{IfOk-weaker}
use Rattle.item_keys.specs.ItemKey.{key_alone}
use Rattle.table_items.specs.Outcomes.{row_key_if}
use Rattle.table_items.specs.Steps.{delete_of}
use Rattle.table_items.proofs.Steps.{delete_done, delete_refused}
use Rattle.table_items.proofs.write.delete.Goals as goal

pub returns-in-Ok-clause-done : goal.returns-in-Ok-clause-done
returns-in-Ok-clause-done c =
    let is =
    sym c.in-Ok.is ∙ c.in_ok-row.ensures ∙ (λ i. row_key_if (key_alone (c.schema.ensures i) (c.schema.ensures i).keys c.args.key.now)) in
    IfOk-weaker c.delete_at.result _ _
    (λ reply made.
    delete_done (delete_of c.args.key.now (option_copied c.args.condition) c.args.values.now c.args.telling) c.args.table.now
    c.delete_at.new.table c.in-Ok.row reply c.requires is made)
    c.delete_at.ensures.done

pub returns-in-Err-clause-done : goal.returns-in-Err-clause-done
returns-in-Err-clause-done c =
    let is =
    sym c.in-Err.is ∙ c.in_ok-row.ensures ∙ (λ i. row_key_if (key_alone (c.schema.ensures i) (c.schema.ensures i).keys c.args.key.now)) in
    delete_refused (delete_of c.args.key.now (option_copied c.args.condition) c.args.values.now c.args.telling) c.args.table.now
    c.args.table.now c.in-Err.fault c.invalid.result c.requires is (refl, c.invalid.ensures)
