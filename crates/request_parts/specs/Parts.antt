-- What requests of one item and actions of a transaction state alike: a table, an item or a key, and expressions.
use Rattle.std.specs.Prelude.{◌≡◌, None, map}
use Rattle.serde_json.specs.Data.{Data}
use Rattle.attr_value.specs.View.{tree_of}
use Rattle.api_form.specs.declared.name.Name.{Name}
use Rattle.api_form.specs.declared.name.Name.TheVariants as name
use Rattle.request_parts.specs.declared.part.Conditional.{Conditional}
use Rattle.request_parts.specs.declared.part.Projected.{Projected}
use Rattle.request_parts.specs.Members.{text_at, stated_text, item_at}
use Rattle.request_parts.specs.Placeholders.{known, known_names}
use Rattle.request_parts.specs.Asks.{Asks, writing, projecting}
use Rattle.request_parts.specs.Trees.{StatesCondition, StatesPaths}

-- the expressions of a write that states no update
abbrev pub condition_asks : Data → Asks
condition_asks d = record { known = known d; expressions = writing None (stated_text name.ConditionExpression d) }

-- the expressions of a read of one item
abbrev pub projection_asks : Data → Asks
projection_asks d = record { known = known_names d; expressions = projecting (stated_text name.ProjectionExpression d) }

-- a write with a condition, of the item or the key that a member states
pub record StatesConditional (m : Name) (d : Data) (r : Conditional) : Type 0 where
  pub table : r.placed.table ≡ text_at name.TableName d
  pub item : r.placed.item ≡ item_at m d
  pub condition : StatesCondition (known d) name.ConditionExpression (stated_text name.ConditionExpression d) r.condition
  pub values : map tree_of r.values ≡ (known d).values

-- a read of one item
pub record StatesProjected (d : Data) (r : Projected) : Type 0 where
  pub table : r.placed.table ≡ text_at name.TableName d
  pub key : r.placed.item ≡ item_at name.Key d
  pub projection : StatesPaths (known_names d) (stated_text name.ProjectionExpression d) r.projection
