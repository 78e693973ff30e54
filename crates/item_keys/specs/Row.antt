-- The rows of global indexes (API Reference: Projection).
use Rattle.std.specs.Prelude.{ℕ, List, Bool, true, false, ◌||◌, Option, None, Some, Result, Ok, Err, bytes_eq, if◌then◌else◌}
use Rattle.std.specs.List.{list_any}
use Rattle.table_schema.specs.declared.index.Projection.{Projection}
use Rattle.table_schema.specs.declared.index.Projection.TheVariants.{KeysOnly, Include, All}
use Rattle.table_schema.specs.declared.index.GlobalIndex.{GlobalIndex}
use Rattle.table_schema.specs.declared.schema.Schema.{Schema}
use Rattle.table_schema.specs.KeyName.{is_key_name}
use Rattle.attr_value.specs.Tree.{Attributes, no_attributes, attribute}
use Rattle.item_keys.specs.declared.fault.KeyFault.{KeyFault}
use Rattle.item_keys.specs.declared.key.Key.{Key}
use Rattle.item_keys.specs.ItemKey.{key_in}

-- whether the projection keeps an attribute beside those of the keys
abbrev pub is_included : Projection → List ℕ → Bool
is_included KeysOnly name = false
is_included (Include names) name = list_any (λ included. bytes_eq included name) names
is_included All name = true

-- whether a row keeps the attribute: of the table's key, of the index's, or included
unfoldable pub is_kept : Schema → GlobalIndex → List ℕ → Bool
is_kept schema index name = is_key_name schema.keys name || is_key_name index.keys name || is_included index.projection name

-- the attributes whose names pass
abbrev pub only : (List ℕ → Bool) → Attributes → Attributes
only keeps no_attributes = no_attributes
only keeps (attribute name value rest) = if keeps name then attribute name value (only keeps rest) else only keeps rest

abbrev pub if_key : Result Key KeyFault → Attributes → Option Attributes
if_key (Ok key) row = Some row
if_key (Err fault) row = None

-- an item's row: none where it does not have the index's key
abbrev pub projected : Schema → GlobalIndex → Attributes → Option Attributes
projected schema index item = if_key (key_in schema index.keys item) (only (is_kept schema index) item)
