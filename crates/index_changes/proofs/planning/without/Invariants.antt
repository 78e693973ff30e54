use Rattle.std.proofs.Common.{◌≡◌, ◌++◌, drop}
use Rattle.index_changes.specs.Commands.{without}
use Rattle.index_changes.proofs.planning.without.Given as goal

abbrev pub invariant-loop-number : goal.invariant-loop-number
invariant-loop-number l = l.rest.items ++ without l.others (drop l.number-index l.numbers) ≡ without l.others l.numbers
