use Rattle.std.proofs.Common.{sym, ap, ◌∙◌}
use Rattle.table_model.specs.Batches.{write_key, halves_at}
use Rattle.table_model.specs.Consumed.{halves_written}
use Rattle.numbered_tables.specs.Tables.{table_in}
use Rattle.table_batches.proofs.Pushing.{place_is, no_place}
use Rattle.table_batches.proofs.used.halves_of.Goals as goal

pub returns-in-Ok : goal.returns-in-Ok
returns-in-Ok c =
    let t = table_in c.args.table.now in
    let write = c.args.write.now in
    c.halves_written.ensures ∙ (λ i. halves_written ((c.lent.ensures ∙ c.get-old.ensures) i) (c.image.ensures i))
    ∙ sym (ap (halves_at t write) (place_is (write_key t write) c.in-Ok.key (sym c.in-Ok.is ∙ c.in_ok-key.ensures)))

pub returns-in-Err : goal.returns-in-Err
returns-in-Err c =
    let t = table_in c.args.table.now in
    let write = c.args.write.now in
    sym (ap (halves_at t write) (no_place (write_key t write) c.in-Err._fault (sym c.in-Err.is ∙ c.in_ok-key.ensures)))
