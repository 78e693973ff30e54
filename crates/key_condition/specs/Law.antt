-- A range and the condition that it is of.
use Rattle.std.specs.Prelude.{◌≡◌, List, Ok}
use Rattle.attr_value.specs.Tree.{Attributes}
use Rattle.attr_value.specs.declared.value.Value.{Value}
use Rattle.expr_words.specs.Trees.{Tree}
use Rattle.condition_eval.specs.Truth.{true_of}
use Rattle.table_schema.specs.declared.keys.KeyNames.{KeyNames}
use Rattle.table_schema.specs.declared.schema.Schema.{Schema}
use Rattle.item_keys.specs.ItemKey.{key_in}
use Rattle.item_keys.specs.declared.key.Key.{Key}
use Rattle.key_condition.specs.declared.key_range.KeyRange.{KeyRange}
use Rattle.key_condition.specs.KeyRange.{lies_in}

-- the key of an item lies in the range exactly where the condition is true of the item
abbrev pub HasKeysWhereTrue : Schema → KeyNames → List Value → Tree → KeyRange → Type 0
HasKeysWhereTrue schema keys values t range =
    (item : Attributes) (key : Key) → key_in schema keys item ≡ Ok key → lies_in range key ≡ true_of values item t
