use Rattle.std.proofs.Common.{◌≡◌, drop}
use Rattle.table_model.specs.Pages.{local_named}
use Rattle.page_reads.proofs.source.local_named.Given as goal

abbrev pub invariant-loop-number : goal.invariant-loop-number
invariant-loop-number l = local_named l.name (drop l.number l.indexes) ≡ local_named l.name l.indexes
