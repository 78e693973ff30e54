use Rattle.std.proofs.Common.{◌≡◌}
use Rattle.std.specs.Prelude.{drop}
use Rattle.table_rows.specs.View.{is_pending}
use Rattle.table_rows.proofs.change.is_pending.Given as goal

abbrev pub invariant-loop-change : goal.invariant-loop-change
invariant-loop-change l = is_pending (drop l.change-index l.changes) l.key ≡ is_pending l.changes l.key
