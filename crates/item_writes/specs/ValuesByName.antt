-- What an item with all writes made has at each name.
use Rattle.std.specs.Prelude.{◌≡◌, ℕ, List, [], ◌∷◌, if◌then◌else◌, bytes_eq, Option, Some, option_and_then}
use Rattle.base_types.specs.declared.path.Step.{Step}
use Rattle.base_types.specs.declared.path.Step.TheVariants.{Name}
use Rattle.attr_value.specs.Tree.{Tree, Attributes}
use Rattle.attr_value.specs.Paths.{value_at}
use Rattle.path_entries.specs.Entries.{below, is_name}
use Rattle.item_writes.specs.NewTree.{Written}
use Rattle.item_writes.specs.Edits.{kept, item_with_all}

-- what a write puts at this name right here, or else what was there before
abbrev pub put_or : List ℕ → List Step → Option Tree → Option Tree → Option Tree
put_or name (Name here ∷ []) (Some value) before = if bytes_eq name here then Some value else before
put_or name _ _ before = before

-- what the last of the writes puts there, or else what was there before
abbrev pub last_put : List ℕ → List Written → Option Tree → Option Tree
last_put name [] before = before
last_put name (w ∷ ws) before = last_put name ws (put_or name w.0 w.1 before)

-- at each name stands what is put right there, and else what stays of the old value
abbrev pub IsByName : Attributes → List Written → Type 0
IsByName item ws = (name : List ℕ) → value_at name (item_with_all item ws)
    ≡ last_put name ws (option_and_then (λ t. kept t (below (is_name name) ws)) (value_at name item))

-- where no write begins with a name, its old value stands
abbrev pub KeepsOthers : Attributes → List Written → Type 0
KeepsOthers item ws = (name : List ℕ) → below (is_name name) ws ≡ [] → value_at name (item_with_all item ws) ≡ value_at name item
