use Rattle.std.proofs.Common.{◌≡◌, ◌++◌, drop, map}
use Rattle.std.specs.Option.{option_copied}
use Rattle.table_batches.specs.Reads.{shown}
use Rattle.table_batches.proofs.read.shown.Given as goal

abbrev pub invariant-loop-found : goal.invariant-loop-found
invariant-loop-found l =
    l.views ++ shown (option_copied l.projection) (map option_copied (drop l.found-index l.items))
    ≡ shown (option_copied l.projection) (map option_copied l.items)
