use Rattle.std.proofs.Common.{drop, map}
use Rattle.std.specs.Option.{option_copied}
use Rattle.table_model.specs.Batches.{asked_keys, asked_items}
use Rattle.table_batches.specs.Answers.{tables_alone}
use Rattle.table_batches.proofs.Refusals.{Asking}
use Rattle.table_batches.proofs.asked.items_of_all.Given as goal

abbrev pub invariant-loop-asked : goal.invariant-loop-asked
invariant-loop-asked l =
    Asking (asked_keys (tables_alone l.tables.entries)) (asked_items (tables_alone l.tables.entries)) l.requests (drop l.asked-index l.requests)
    (map option_copied l.items.items) l.twice
