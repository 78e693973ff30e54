use Rattle.table_rows.proofs.Kept.{kept_new}
use Rattle.table_rows.proofs.indexed.IndexedRows.new.Goals as goal

pub invariant_of-result : goal.invariant_of-result
invariant_of-result c =
    kept_new c.args.schema c.new-slots.result c.new.result c.in_ok-indexes.indexes c.new-slots.ensures c.new.ensures c.in_ok-indexes.ensures
