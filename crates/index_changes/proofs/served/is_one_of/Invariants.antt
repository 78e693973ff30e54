use Rattle.std.proofs.Common.{◌≡◌, nat_eq, drop}
use Rattle.std.specs.List.{list_any}
use Rattle.index_changes.proofs.served.is_one_of.Given as goal

abbrev pub invariant-loop-number : goal.invariant-loop-number
invariant-loop-number l = list_any (λ h. nat_eq h l.index) l.numbers ≡ list_any (λ h. nat_eq h l.index) (drop l.number-index l.numbers)
