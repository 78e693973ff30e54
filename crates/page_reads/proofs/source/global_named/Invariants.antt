use Rattle.std.proofs.Common.{◌≡◌, drop}
use Rattle.table_model.specs.Pages.{global_named}
use Rattle.page_reads.proofs.source.global_named.Given as goal

abbrev pub invariant-loop-number : goal.invariant-loop-number
invariant-loop-number l = global_named l.name (drop l.number l.indexes) ≡ global_named l.name l.indexes
