use Rattle.std.proofs.Common.{◌≡◌}
use Rattle.socket_listener.proofs.source.SocketSource.take.Given as goal

abbrev pub invariant-loop : goal.invariant-loop
invariant-loop g l = l.self.faults ≡ l.initial.self.faults
