use Rattle.std.proofs.Common.{◌≡◌}
use Rattle.cluster.specs.Steps.{IsAtRest, partitions_of}
use Rattle.table_load.specs.Rounds.{InOrder, SendsShare}
use Rattle.table_load.proofs.client.Client.send_share.Given as goal

abbrev pub invariant-loop-place : goal.invariant-loop-place
invariant-loop-place g l = record {
  rests : IsAtRest l.cells.caller l.self.session;
  number : l.self.number ≡ l.fn.self.number;
  sent : InOrder (SendsShare (partitions_of l.cells.caller) l.shares.start l.shares.clients l.fn.self.number) l.place l.fn.self.session l.self.session;
}
