use Rattle.std.proofs.Common.{◌≡◌, drop, bytes_eq}
use Rattle.std.specs.List.{list_any}
use Rattle.page_reads.proofs.names.is_listed.Given as goal

abbrev pub invariant-loop-listed : goal.invariant-loop-listed
invariant-loop-listed l =
    list_any (λ listed. bytes_eq listed l.name) (drop l.listed-index l.names) ≡ list_any (λ listed. bytes_eq listed l.name) l.names
