use Rattle.std.proofs.Common.{◌≡◌, drop, option_map}
use Rattle.std.specs.List.{list_any}
use Rattle.std.specs.Option.{option_copied}
use Rattle.table_model.specs.Batches.{is_unfit_write}
use Rattle.numbered_tables.specs.Tables.{table_in}
use Rattle.table_batches.proofs.fit.has_unfit.Given as goal

abbrev pub invariant-loop-write : goal.invariant-loop-write
invariant-loop-write l =
    list_any (is_unfit_write (option_map table_in (option_copied l.table))) (drop l.write-index l.writes)
    ≡ list_any (is_unfit_write (option_map table_in (option_copied l.table))) l.writes
