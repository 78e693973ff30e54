use Rattle.std.proofs.Common.{◌≢◌, ◌↔◌, AllPairs, length}
use Rattle.table_schema.proofs.definition.have_distinct_names.Given as goal

abbrev pub invariant-loop-first : goal.invariant-loop-first
invariant-loop-first l = AllPairs (λ d e. d.name ≢ e.name) l.rest ↔ AllPairs (λ d e. d.name ≢ e.name) l.fn.definitions

abbrev pub decreases-loop-first : goal.decreases-loop-first
decreases-loop-first l = length l.rest
