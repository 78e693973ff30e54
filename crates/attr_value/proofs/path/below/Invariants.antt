use Rattle.std.proofs.Common.{◌≡◌, drop}
use Rattle.attr_value.specs.Paths.{found_in}
use Rattle.attr_value.specs.View.{tree_of}
use Rattle.attr_value.proofs.path.below.Given as goal

abbrev pub invariant-loop-step : goal.invariant-loop-step
invariant-loop-step l = found_in l.steps (tree_of l.fn.value) ≡ found_in (drop l.step-index l.steps) (tree_of l.reached)
