use Rattle.std.proofs.Common.{◌≡◌, drop}
use Rattle.attr_value.specs.Tree.{Trees}
use Rattle.attr_value.specs.View.{trees_of}
use Rattle.attr_value.specs.Parts.{onto}
use Rattle.item_writes.proofs.new_value.push_copies.Given as goal

abbrev pub invariant-loop-value : goal.invariant-loop-value
invariant-loop-value l =
    (rest : Trees) → onto (trees_of l.all) (onto (trees_of (drop l.value-index l.value-items)) rest) ≡ onto (trees_of l.fn.all) (onto (trees_of l.value-items) rest)
