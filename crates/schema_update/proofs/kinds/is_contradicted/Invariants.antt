use Rattle.std.proofs.Common.{◌≡◌, drop}
use Rattle.table_model.specs.Catalog.{has_contradiction}
use Rattle.schema_update.proofs.kinds.is_contradicted.Given as goal

abbrev pub invariant-loop-definition : goal.invariant-loop-definition
invariant-loop-definition l = has_contradiction l.kinds (drop l.definition-index l.added) ≡ has_contradiction l.fn.known l.added
