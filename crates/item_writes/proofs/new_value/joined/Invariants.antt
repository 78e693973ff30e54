use Rattle.std.proofs.Common.{◌≡◌, drop}
use Rattle.attr_value.specs.View.{trees_of}
use Rattle.attr_value.specs.Parts.{onto}
use Rattle.item_writes.specs.Joined.{joined}
use Rattle.item_writes.proofs.new_value.joined.Given as goal

abbrev pub invariant-loop-list : goal.invariant-loop-list
invariant-loop-list l = onto (trees_of l.all) (joined (drop l.list-index l.lists)) ≡ joined l.lists
