use Rattle.std.proofs.Common.{◌≡◌, not, drop}
use Rattle.std.specs.List.{list_any}
use Rattle.index_changes.specs.Commands.{is_in}
use Rattle.index_changes.proofs.planning.has_other.Given as goal

abbrev pub invariant-loop-number : goal.invariant-loop-number
invariant-loop-number l =
    list_any (λ x. not (is_in l.others x)) l.numbers ≡ list_any (λ x. not (is_in l.others x)) (drop l.number-index l.numbers)
