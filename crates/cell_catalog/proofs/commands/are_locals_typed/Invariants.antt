use Rattle.std.proofs.Common.{◌≡◌, drop}
use Rattle.std.specs.List.{list_all}
use Rattle.cell_model.specs.Commands.{has_kinds}
use Rattle.cell_catalog.proofs.commands.are_locals_typed.Given as goal

abbrev pub invariant-loop-index : goal.invariant-loop-index
invariant-loop-index l =
    list_all (λ index. has_kinds l.schema index.keys) (drop l.index-index l.schema.locals)
    ≡ list_all (λ index. has_kinds l.schema index.keys) l.schema.locals
