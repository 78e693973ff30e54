use Rattle.std.proofs.Common.{◌≡◌, take}
use Rattle.cell_rules.proofs.answers.are_equal_lists.Given as goal

abbrev pub invariant-loop-place : goal.invariant-loop-place
invariant-loop-place l = take l.place l.left ≡ take l.place l.right
