use Rattle.std.proofs.Common.{refl, sym, ◌∙◌}
use Rattle.std.specs.Option.{option_copied}
use Rattle.std.proofs.lemmas.Result.{IfOk-weaker}
use Rattle.item_keys.specs.ItemKey.{key_in}
use Rattle.table_items.specs.Outcomes.{row_key_if}
use Rattle.table_items.specs.Steps.{put_of}
use Rattle.table_items.proofs.Steps.{put_done, put_refused}
use Rattle.table_items.proofs.write.put.Goals as goal

pub returns-in-Ok-clause-done : goal.returns-in-Ok-clause-done
returns-in-Ok-clause-done c =
    let is =
    sym c.in-Ok.is ∙ c.in_ok-key.ensures ∙ (λ i. row_key_if (key_in (c.schema.ensures i) (c.schema.ensures i).keys c.args.item)) in
    IfOk-weaker c.put_at.result _ _
    (λ reply made.
    put_done (put_of c.args.item (option_copied c.args.condition) c.args.values.now c.args.telling) c.args.table.now
    c.put_at.new.table c.in-Ok.key reply c.requires is made)
    c.put_at.ensures.done

pub returns-in-Err-clause-done : goal.returns-in-Err-clause-done
returns-in-Err-clause-done c =
    let is =
    sym c.in-Err.is ∙ c.in_ok-key.ensures ∙ (λ i. row_key_if (key_in (c.schema.ensures i) (c.schema.ensures i).keys c.args.item)) in
    put_refused (put_of c.args.item (option_copied c.args.condition) c.args.values.now c.args.telling) c.args.table.now
    c.args.table.now c.in-Err.fault c.invalid.result c.requires is (refl, c.invalid.ensures)
