use Rattle.std.proofs.Common.{◌≡◌, drop}
use Rattle.table_schema.specs.Kind.{kind_of}
use Rattle.table_schema.proofs.schema.Schema.kind_of.Given as goal

abbrev pub invariant-loop-definition : goal.invariant-loop-definition
invariant-loop-definition l =
    kind_of l.name (drop l.definition-index l.self.definitions) ≡ kind_of l.name l.self.definitions
