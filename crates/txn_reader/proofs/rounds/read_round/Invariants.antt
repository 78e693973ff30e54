use Rattle.std.proofs.Common.{◌≡◌, ◌-◌, length}
use Rattle.cluster.specs.Counts.{Counts}
use Rattle.txn_reader.specs.Reads.{round}
use Rattle.txn_reader.proofs.rounds.read_round.Given as goal

abbrev pub invariant-loop-key : goal.invariant-loop-key
invariant-loop-key g l =
    let S = g.R.Rules.protocol (l.caller.id.slots - 1) in
    Counts S l.fn.pass (round S l.fn.pass l.keys l.found) 0 l.pass × (length l.found ≡ l.key-index)
