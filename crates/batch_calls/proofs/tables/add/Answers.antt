use Rattle.std.proofs.Common.{cond, Some, ◌∙◌}
use Rattle.std.specs.Ordering.{nat_cmp}
use Rattle.std.specs.Cmp.Lexicographic.{slice_cmp}
use Rattle.std.specs.BTreeMap.{is_at}
use Rattle.batch_calls.specs.Tables.{table_at}
use Rattle.batch_calls.proofs.tables.add.Goals as goal

pub returns : goal.returns
returns c = λ other.
    c.in_ok-insert.ensures.updates.0 other
    ∙ (λ i. cond (is_at (slice_cmp nat_cmp (c.in_ok-name.ensures i)) other) (Some (c.in_ok-table.ensures i)) (table_at other c.args.tables.now.entries))
