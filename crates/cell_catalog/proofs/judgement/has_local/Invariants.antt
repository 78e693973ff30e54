use Rattle.std.proofs.Common.{◌≡◌, drop}
use Rattle.std.specs.Prelude.{is_some}
use Rattle.table_model.specs.Pages.{local_named}
use Rattle.cell_catalog.proofs.judgement.has_local.Given as goal

abbrev pub invariant-loop-index : goal.invariant-loop-index
invariant-loop-index l =
    is_some (local_named l.name (drop l.index-index l.schema.locals)) ≡ is_some (local_named l.name l.schema.locals)
