use Rattle.std.proofs.Common.{◌≡◌, drop}
use Rattle.std.specs.List.{list_any}
use Rattle.table_model.specs.Database.{table_named}
use Rattle.table_model.specs.Batches.{is_unfit_write}
use Rattle.table_batches.specs.Answers.{tables_alone}
use Rattle.table_batches.proofs.fit.some_unfit.Given as goal

-- an index refuses some item of all where one refuses some item that is left
abbrev pub invariant-loop-asked : goal.invariant-loop-asked
invariant-loop-asked l =
    let db = tables_alone l.tables.entries in
    list_any (λ t. list_any (is_unfit_write (table_named db t.table)) t.writes) (drop l.asked-index l.requests)
    ≡ list_any (λ t. list_any (is_unfit_write (table_named db t.table)) t.writes) l.requests
