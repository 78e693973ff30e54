use Rattle.std.proofs.Common.{◌≡◌}
use Rattle.cluster.specs.Steps.{IsAtRest, partitions_of}
use Rattle.table_load.specs.Rounds.{InOrder, Makes}
use Rattle.table_load.proofs.session.Session.make_all.Given as goal

abbrev pub invariant-loop-place : goal.invariant-loop-place
invariant-loop-place g l = record {
  rests : IsAtRest l.cells.caller l.self;
  made : InOrder (Makes (partitions_of l.cells.caller) l.start) l.place l.fn.self l.self;
  obeyed : g.G.Gate.stops l.gate ≡ g.G.Gate.stops l.fn.gate;
}
