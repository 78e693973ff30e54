use Rattle.std.proofs.Common.{◌≡◌, drop}
use Rattle.legacy_params.specs.Faults.{least, changes_fault}
use Rattle.legacy_params.proofs.changes.changes_fault.Given as goal

abbrev pub invariant-loop-change : goal.invariant-loop-change
invariant-loop-change l = least l.first (changes_fault (drop l.change-index l.changes)) ≡ changes_fault l.changes
