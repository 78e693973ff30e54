use Rattle.numbered_tables.proofs.Removals.{AreQuietWith}
use Rattle.numbered_tables.proofs.expired.are_quiet.Given as goal

abbrev pub invariant-loop-name : goal.invariant-loop-name
invariant-loop-name l = AreQuietWith l.second l._name-iterator l.tables.entries
