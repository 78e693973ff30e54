-- The tree of an update that is being made.
use Rattle.expr_parse.specs.UpdateTree.{UpdateTree, tree_of}
use Rattle.legacy_params.specs.declared.changes.Draft.{Draft}

abbrev pub draft_tree : Draft → UpdateTree
draft_tree d = tree_of d.sets d.removes d.adds d.deletes
