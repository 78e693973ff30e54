-- The tree that a value stands for. An item is seen as its attributes, and a list's elements as trees, so one level of
-- a value is all that there is to say.
use Rattle.std.specs.Prelude.{ℕ, List, [], ◌∷◌, map, Option, option_map}
use Rattle.std.specs.Borrow.{Bor}
use Rattle.attr_value.specs.Tree as tree
use Rattle.attr_value.specs.Tree.{Tree, Trees, Attributes}
use Rattle.attr_value.specs.declared.value.Value.{Value}
use Rattle.attr_value.specs.declared.value.Value.TheVariants.{S, N, B, Bool, Null, L, M, Ss, Ns, Bs}

abbrev pub trees : List Tree → Trees
trees [] = tree.no_trees
trees (t ∷ ts) = tree.tree t (trees ts)

abbrev pub named : List (List ℕ × Tree) → Attributes
named [] = tree.no_attributes
named (e ∷ es) = tree.attribute e.0 e.1 (named es)

-- the tree of a value
abbrev pub tree_of : Value → Tree
tree_of (S s) = tree.text s
tree_of (N z) = tree.number z
tree_of (B s) = tree.binary s
tree_of (Bool b) = tree.boolean b
tree_of Null = tree.null
tree_of (L inside) = tree.list inside
tree_of (M inside) = tree.map inside
tree_of (Ss s) = tree.text_set s
tree_of (Ns s) = tree.number_set s
tree_of (Bs s) = tree.binary_set s

-- the elements that values are
abbrev pub trees_of : List Value → Trees
trees_of vs = trees (map tree_of vs)

-- the attributes that names and values are
abbrev pub attributes_of : List (List ℕ × Value) → Attributes
attributes_of es = named (map (λ e. (e.0, tree_of e.1)) es)

-- the tree of a value that is lent
abbrev pub lent_tree : Option (Bor Value) → Option Tree
lent_tree lent = option_map (λ value. tree_of value.now) lent
