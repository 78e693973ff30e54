-- What the bodies of requests of one item state (API Reference: PutItem, GetItem, UpdateItem, DeleteItem).
use Rattle.std.specs.Prelude.{◌≡◌, List, ℕ, Bool, ◌||◌, Result, map, codes, bytes_eq, if◌then◌else◌}
use Rattle.serde_json.specs.Data.{Data}
use Rattle.attr_value.specs.View.{tree_of}
use Rattle.api_form.specs.declared.name.Name.TheVariants as name
use Rattle.table_request.specs.declared.items.ReturnValues.{ReturnValues}
use Rattle.table_request.specs.declared.items.ReturnValues.TheVariants as returns
use Rattle.table_request.specs.declared.items.PutItem.{PutItem}
use Rattle.table_request.specs.declared.items.GetItem.{GetItem}
use Rattle.table_request.specs.declared.items.UpdateItem.{UpdateItem}
use Rattle.table_request.specs.declared.items.DeleteItem.{DeleteItem}
use Rattle.request_parts.specs.declared.refusal.Refusal.{Refusal}
use Rattle.request_parts.specs.Members.{text_at, stated_text, flag_at, item_at}
use Rattle.request_parts.specs.Placeholders.{known, known_names}
use Rattle.request_parts.specs.Asks.{Asks, IsPart, writing}
use Rattle.request_parts.specs.Parts.{condition_asks, projection_asks}
use Rattle.request_parts.specs.Trees.{StatesUpdate, StatesCondition, StatesPaths}

-- what a word asks to be answered; nothing where none is stated
abbrev pub returns_named : List ℕ → ReturnValues
returns_named word =
    if bytes_eq word (codes "ALL_OLD") then returns.AllOld
    else (if bytes_eq word (codes "UPDATED_OLD") then returns.UpdatedOld
    else (if bytes_eq word (codes "ALL_NEW") then returns.AllNew
    else (if bytes_eq word (codes "UPDATED_NEW") then returns.UpdatedNew else returns.None)))

-- whether the item is shown where the condition is false of it
abbrev pub shows_old : Data → Bool
shows_old d = bytes_eq (text_at name.ReturnValuesOnConditionCheckFailure d) (codes "ALL_OLD")

-- whether the capacity that is used is told: INDEXES tells the same as TOTAL
abbrev pub tells_capacity : List ℕ → Bool
tells_capacity word = bytes_eq word (codes "TOTAL") || bytes_eq word (codes "INDEXES")

abbrev pub asks_capacity : Data → Bool
asks_capacity d = tells_capacity (text_at name.ReturnConsumedCapacity d)

-- the expressions of an update
abbrev pub update_asks : Data → Asks
update_asks d = record {
  known = known d;
  expressions = writing (stated_text name.UpdateExpression d) (stated_text name.ConditionExpression d);
}

pub record StatesPutItem (d : Data) (r : PutItem) : Type 0 where
  pub table : r.table ≡ text_at name.TableName d
  pub item : r.item ≡ item_at name.Item d
  pub condition : StatesCondition (known d) name.ConditionExpression (stated_text name.ConditionExpression d) r.condition
  pub values : map tree_of r.values ≡ (known d).values
  pub return_values : r.return_values ≡ returns_named (text_at name.ReturnValues d)
  pub show_old : r.show_old ≡ shows_old d
  pub capacity : r.capacity ≡ asks_capacity d

abbrev pub IsPutItem : Data → Result PutItem Refusal → Type 0
IsPutItem = IsPart condition_asks StatesPutItem

pub record StatesGetItem (d : Data) (r : GetItem) : Type 0 where
  pub table : r.table ≡ text_at name.TableName d
  pub key : r.key ≡ item_at name.Key d
  pub projection : StatesPaths (known_names d) (stated_text name.ProjectionExpression d) r.projection
  pub consistent : r.consistent ≡ flag_at name.ConsistentRead d
  pub capacity : r.capacity ≡ asks_capacity d

abbrev pub IsGetItem : Data → Result GetItem Refusal → Type 0
IsGetItem = IsPart projection_asks StatesGetItem

pub record StatesUpdateItem (d : Data) (r : UpdateItem) : Type 0 where
  pub table : r.table ≡ text_at name.TableName d
  pub key : r.key ≡ item_at name.Key d
  pub update : StatesUpdate (known d) (stated_text name.UpdateExpression d) r.update
  pub condition : StatesCondition (known d) name.ConditionExpression (stated_text name.ConditionExpression d) r.condition
  pub values : map tree_of r.values ≡ (known d).values
  pub return_values : r.return_values ≡ returns_named (text_at name.ReturnValues d)
  pub show_old : r.show_old ≡ shows_old d
  pub capacity : r.capacity ≡ asks_capacity d

abbrev pub IsUpdateItem : Data → Result UpdateItem Refusal → Type 0
IsUpdateItem = IsPart update_asks StatesUpdateItem

pub record StatesDeleteItem (d : Data) (r : DeleteItem) : Type 0 where
  pub table : r.table ≡ text_at name.TableName d
  pub key : r.key ≡ item_at name.Key d
  pub condition : StatesCondition (known d) name.ConditionExpression (stated_text name.ConditionExpression d) r.condition
  pub values : map tree_of r.values ≡ (known d).values
  pub return_values : r.return_values ≡ returns_named (text_at name.ReturnValues d)
  pub show_old : r.show_old ≡ shows_old d
  pub capacity : r.capacity ≡ asks_capacity d

abbrev pub IsDeleteItem : Data → Result DeleteItem Refusal → Type 0
IsDeleteItem = IsPart condition_asks StatesDeleteItem
