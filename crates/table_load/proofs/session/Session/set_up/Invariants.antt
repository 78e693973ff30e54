use Rattle.cluster.specs.Steps.{IsAtRest, partitions_of}
use Rattle.table_load.specs.Rounds.{InOrder, SetsUp}
use Rattle.table_load.proofs.session.Session.set_up.Given as goal

abbrev pub invariant-loop-place : goal.invariant-loop-place
invariant-loop-place g l = record {
  rests : IsAtRest l.cells.caller l.self;
  made : InOrder (SetsUp (partitions_of l.cells.caller)) l.place l.fn.self l.self;
}
