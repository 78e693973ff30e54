use Rattle.std.proofs.Common.{◌≢◌, ◌↔◌, AllPairs}
use Rattle.table_schema.specs.Indexes.{rest_of}
use Rattle.table_schema.proofs.indexes.Indexes.have_distinct_names.Given as goal

abbrev pub invariant-loop-index : goal.invariant-loop-index
invariant-loop-index l =
    (goal.iterator-loop-index).can_next l.self × (goal.iterator-loop-index).is_finite l.self
    × (AllPairs (λ i j. i.name ≢ j.name) (rest_of l.self) ↔ AllPairs (λ i j. i.name ≢ j.name) (rest_of l.fn.self))
