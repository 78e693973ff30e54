-- Bytes and levels of what is made, part by part.
use Rattle.std.specs.Prelude.{ℕ, ◌+◌, max, length, List, [], ◌∷◌, Option, Some, None}
use Rattle.attr_value.specs.Tree.{Tree, Attributes, no_attributes, attribute}
use Rattle.attr_value.specs.Sizes.{size, item_depth}
use Rattle.item_writes.specs.NewTree.{Written}
use Rattle.item_writes.specs.Edits.{put_one}

-- the bytes of attributes, and so many more for each
abbrev pub attributes_bytes : ℕ → Attributes → ℕ
attributes_bytes each no_attributes = 0
attributes_bytes each (attribute name t rest) = each + length name + size t + attributes_bytes each rest

-- those of the attributes that writes put right here
abbrev pub puts_bytes : ℕ → List Written → ℕ
puts_bytes each [] = 0
puts_bytes each (w ∷ ws) = attributes_bytes each (put_one w.0 w.1 no_attributes) + puts_bytes each ws

-- the greatest depth of their values
abbrev pub puts_levels : List Written → ℕ
puts_levels [] = 0
puts_levels (w ∷ ws) = max (item_depth (put_one w.0 w.1 no_attributes)) (puts_levels ws)

-- what the first write puts right here, where it ends here
abbrev pub written_here : List Written → Option (Option Tree)
written_here [] = None
written_here (([], value) ∷ ws) = Some value
written_here ((step ∷ steps, value) ∷ ws) = None
