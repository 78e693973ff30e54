-- What a write makes of one item: the condition, then the evaluation, then the size, then the keys of indexes.
use Rattle.std.specs.Prelude.{ℕ, List, Bool, true, nat_lt, if◌then◌else◌, Option, None, Some, unwrap_or, Result, Ok, Err}
use Rattle.attr_value.specs.Tree.{Attributes, no_attributes}
use Rattle.attr_value.specs.Sizes.{item_size}
use Rattle.attr_value.specs.declared.value.Value.{Value}
use Rattle.expr_words.specs.declared.tree.Condition.{Condition}
use Rattle.expr_words.specs.Trees.{tree}
use Rattle.expr_parse.specs.declared.tree.Update.{Update}
use Rattle.condition_eval.specs.Truth.{true_of}
use Rattle.expr_parse.specs.Update.{update_tree}
use Rattle.update_eval.specs.Updated.{updated}
use Rattle.update_eval.specs.declared.fault.EvalFault.{EvalFault}
use Rattle.update_eval.specs.declared.fault.EvalFault.TheVariants.{ItemTooLarge, IndexKey}
use Rattle.table_schema.specs.declared.schema.Schema.{Schema}
use Rattle.row_keys.specs.Rows.{is_refused}

-- the most bytes of an item (Developer Guide: Quotas, Item size)
abbrev pub most_item_bytes : ℕ
most_item_bytes = 409600

abbrev pub is_too_large : Attributes → Bool
is_too_large item = nat_lt most_item_bytes (item_size item)

-- what becomes of an item that may be there
pub data ItemOutcome : Type 0 where
  becomes : Option Attributes → ItemOutcome
  is_false : ItemOutcome
  is_faulty : EvalFault → ItemOutcome

-- an item that may stand in the table, or the fault of it
abbrev pub fit : Schema → Attributes → ItemOutcome
fit schema item =
    if is_too_large item then is_faulty ItemTooLarge
    else (if is_refused schema item then is_faulty IndexKey else becomes (Some item))

abbrev pub fit_if : Schema → Result Attributes EvalFault → ItemOutcome
fit_if schema (Ok item) = fit schema item
fit_if schema (Err fault) = is_faulty fault

-- an absent item has no attribute
abbrev pub or_empty : Option Attributes → Attributes
or_empty item = unwrap_or item no_attributes

-- the condition is true of the item, or there is none
abbrev pub is_met : Option Condition → List Value → Option Attributes → Bool
is_met None values item = true
is_met (Some condition) values item = true_of values (or_empty item) (tree condition)

-- the outcome, where the condition is true
abbrev pub where_met : Bool → ItemOutcome → ItemOutcome
where_met met outcome = if met then outcome else is_false

-- an update works on the item, or on its key alone where it is absent; without actions it makes that item
abbrev pub updated_by : Option Update → List Value → Attributes → Result Attributes EvalFault
updated_by None values item = Ok item
updated_by (Some update) values item = updated values item (update_tree update)

abbrev pub put_outcome : Schema → Attributes → ItemOutcome
put_outcome schema item = fit schema item

abbrev pub update_outcome : Schema → Option Update → List Value → Attributes → Option Attributes → ItemOutcome
update_outcome schema update values key item = fit_if schema (updated_by update values (unwrap_or item key))

abbrev pub delete_outcome : ItemOutcome
delete_outcome = becomes None
