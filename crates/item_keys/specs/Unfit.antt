-- Items that an index refuses (Developer Guide: Global secondary indexes).
use Rattle.std.specs.Prelude.{ℕ, List, Bool, true, false, ◌||◌, Option, None, Some, Result, Ok, Err}
use Rattle.attr_value.specs.Tree.{Attributes}
use Rattle.table_schema.specs.declared.keys.KeyNames.{KeyNames}
use Rattle.table_schema.specs.declared.schema.Schema.{Schema}
use Rattle.item_keys.specs.declared.fault.KeyFault.{KeyFault}
use Rattle.item_keys.specs.declared.fault.KeyFault.TheVariants.{Missing}
use Rattle.item_keys.specs.declared.value.KeyValue.{KeyValue}
use Rattle.item_keys.specs.ItemKey.{part_in}

-- a part of a key is there, and can't be one
abbrev pub is_bad : Result KeyValue KeyFault → Bool
is_bad (Ok value) = false
is_bad (Err Missing) = false
is_bad (Err fault) = true

abbrev pub is_bad_sort : Schema → Option (List ℕ) → Attributes → Bool
is_bad_sort schema None item = false
is_bad_sort schema (Some name) item = is_bad (part_in schema 1024 name item)

-- some part of the key is there and can't be one, whatever else is absent
abbrev pub is_unfit : Schema → KeyNames → Attributes → Bool
is_unfit schema keys item = is_bad (part_in schema 2048 keys.partition item) || is_bad_sort schema keys.sort item
