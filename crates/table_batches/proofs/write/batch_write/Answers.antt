use Rattle.std.proofs.Common.{sym, ap, ◌∙◌}
use Rattle.table_model.specs.declared.reply.Reply.TheVariants.{BatchWritten}
use Rattle.table_model.specs.Batches.{used_by_writes}
use Rattle.table_model.specs.Consumed.{where_asked}
use Rattle.numbered_tables.specs.Tables.{database_in}
use Rattle.table_batches.specs.Answers.{tables_alone}
use Rattle.table_batches.proofs.Writing.{answered}
use Rattle.table_batches.proofs.write.batch_write.Goals as goal

pub returns-in_ok-change_all-in-Ok-clause-ok : goal.returns-in_ok-change_all-in-Ok-clause-ok
returns-in_ok-change_all-in-Ok-clause-ok c = λ tokens made.
    let old = c.args.tables.now.entries in
    let new = c.change_all.new.tables.entries in
    let asked = rw c.in-Ok.is at c.in_ok-changes.ensures in
    let used =
    c.in_ok-consumed.ensures
    ∙ ap (λ ts. where_asked c.args.request.capacity (used_by_writes (tables_alone old) ts)) c.as_slice.ensures in
    answered old new c.args.request c.in-Ok.changes asked.0 asked.1.0 c.in_ok-change_all-in-Ok.ensures.ok tokens made
    ∙ (λ i. (database_in new tokens made, BatchWritten (sym c.new-unwritten.ensures i) (sym used i)))
