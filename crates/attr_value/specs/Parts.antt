-- Items and lists made part by part, of what stays of others.
use Rattle.std.specs.Prelude.{ℕ, List, Option, None, Some}
use Rattle.attr_value.specs.Tree.{Tree, Trees, no_trees, tree, Attributes}
use Rattle.attr_value.specs.Paths.{put}

-- the attributes with this one, where it has a value
abbrev pub put_some : List ℕ → Option Tree → Attributes → Attributes
put_some name None item = item
put_some name (Some t) item = put name t item

-- the elements of one list before those of another
abbrev pub onto : Trees → Trees → Trees
onto no_trees us = us
onto (tree t ts) us = tree t (onto ts us)
