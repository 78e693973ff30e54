-- The tree of an update, and what is answered of one.
use Rattle.std.specs.Prelude.{◌≡◌, None, Some, Result, Ok, Err}
use Rattle.expr_words.specs.declared.parse_end.ParseEnd.{ParseEnd}
use Rattle.expr_words.specs.declared.parse_end.ParseEnd.TheVariants.{NoMemory}
use Rattle.expr_parse.specs.declared.tree.Update.{Update}
use Rattle.expr_parse.specs.UpdateTree.{UpdateTree, tree_of}
use Rattle.expr_parse.specs.Reading.{UpdateFault}

-- the tree of an update
abbrev pub update_tree : Update → UpdateTree
update_tree u = tree_of u.sets u.removes u.adds u.deletes

-- the update, if it has no fault; else its fault
abbrev pub IsBounded : UpdateTree → Result Update ParseEnd → Type 0
IsBounded u (Ok update) = (update_tree update ≡ u) × UpdateFault u None
IsBounded u (Err NoMemory) = Unit {0}
IsBounded u (Err fault) = UpdateFault u (Some fault)
