-- Lists behind one another.
use Rattle.std.specs.Prelude.{List, [], ◌∷◌}
use Rattle.std.specs.Borrow.{Bor}
use Rattle.attr_value.specs.Parts.{onto}
use Rattle.attr_value.specs.Tree.{Trees, no_trees}

-- the elements of all lists
abbrev pub joined : List (Bor Trees) → Trees
joined [] = no_trees
joined (first ∷ rest) = onto first.now (joined rest)
