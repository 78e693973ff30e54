-- How values are written in the logic's own tree of numbers.
use Rattle.std.specs.Coded.{Coded, code_by}
use base.Stored.{Gv}
use denote.Struct.Codes.{itself}
use Rattle.attr_value.specs.Codes.{stored, tree_in, tree_back}
use Rattle.attr_value.specs.Tree.{Tree}

-- the code of a value
abbrev pub tree_code : Coded Tree
tree_code = code_by Gv itself stored tree_in tree_back
