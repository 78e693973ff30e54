use Rattle.std.proofs.Common.{◌≡◌, drop}
use Rattle.page_reads.specs.Names.{is_named, first_unnamed}
use Rattle.page_reads.proofs.refused.first_unkept.Given as goal

abbrev pub invariant-loop-path : goal.invariant-loop-path
invariant-loop-path l =
    first_unnamed (is_named l.names) (drop l.path-index l.paths) ≡ first_unnamed (is_named l.names) l.paths
