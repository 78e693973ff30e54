use Rattle.std.proofs.Common.{map, ap, ◌∙◌}
use Rattle.std.specs.Option.{option_copied}
use Rattle.std.proofs.lemmas.Result.{IfOk-weaker}
use Rattle.table_batches.specs.Reads.{read_of}
use Rattle.table_batches.proofs.Reading.{answered}
use Rattle.table_batches.proofs.read.batch_get.Goals as goal

pub returns-in-Ok : goal.returns-in-Ok
returns-in-Ok c =
    let es = c.args.tables.now.entries in
    let r = c.args.request in
    let asked = rw c.in-Ok.is at c.in_ok-items.ensures in
    let lent = c.as_slice-in-Ok.ensures.value in
    IfOk-weaker c.told_batch.result _ _
    (λ reply told. answered es r (map option_copied c.in-Ok.items.items) c.as_slice.result.now reply c.as_slice.ensures asked.0 asked.1
    (told ∙ ap (λ found. read_of r.capacity r.tables (map option_copied found)) lent))
    c.told_batch.ensures
