use Rattle.page_reads.specs.Sources.{source_in}
use Rattle.page_calls.proofs.Telling.{IsTold}
use Rattle.page_calls.proofs.told.filled.Given as goal

abbrev pub invariant-loop-before : goal.invariant-loop-before
invariant-loop-before l = IsTold l.sight.schema.now (source_in l.sight.source) l.sight.page.now l.ended l.rows l.before l.filled
