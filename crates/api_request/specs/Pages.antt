-- What the bodies of Query and Scan state (API Reference: Query, Scan).
use Rattle.std.specs.Prelude.{◌≡◌, ℕ, List, true, Option, option_map, unwrap_or, Result, Ok, map, codes, bytes_eq, if◌then◌else◌}
use Rattle.serde_json.specs.Data.{Data}
use Rattle.attr_value.specs.View.{tree_of}
use Rattle.expr_words.specs.Trees.{tree}
use Rattle.api_form.specs.declared.name.Name.TheVariants as name
use Rattle.table_request.specs.declared.pages.Select.{Select}
use Rattle.table_request.specs.declared.pages.Select.TheVariants as select
use Rattle.table_request.specs.declared.pages.PageRequest.{PageRequest}
use Rattle.table_request.specs.declared.pages.Segment.{Segment}
use Rattle.table_request.specs.declared.pages.Query.{Query}
use Rattle.table_request.specs.declared.pages.Scan.{Scan}
use Rattle.attr_value.specs.declared.value.Value.{Value}
use Rattle.api_request.specs.declared.page.Rows.{Rows}
use Rattle.request_parts.specs.declared.asks.PageTrees.{PageTrees}
use Rattle.request_parts.specs.declared.refusal.Refusal.{Refusal}
use Rattle.request_parts.specs.Members.{text_at, stated_text, stated_flag, flag_at, stated_whole, stated_item}
use Rattle.request_parts.specs.Placeholders.{known}
use Rattle.request_parts.specs.Expressions.{ConditionOf}
use Rattle.request_parts.specs.Asks.{Asks, IsPart, showing, querying}
use Rattle.request_parts.specs.Trees.{StatesCondition, StatesPaths}
use Rattle.api_request.specs.Items.{asks_capacity}

-- which attributes a word selects; the form has no other words
abbrev pub select_named : List ℕ → Select
select_named word =
    if bytes_eq word (codes "ALL_ATTRIBUTES") then select.AllAttributes
    else (if bytes_eq word (codes "ALL_PROJECTED_ATTRIBUTES") then select.AllProjectedAttributes
    else (if bytes_eq word (codes "SPECIFIC_ATTRIBUTES") then select.SpecificAttributes else select.Count))

-- the segment, where one is stated
abbrev pub segment_of : Data → Option Segment
segment_of d = option_map (λ total. record { segment = unwrap_or (stated_whole name.Segment d) 0; total = total }) (stated_whole name.TotalSegments d)

-- a page of rows, of a table or of an index
pub record StatesPage (d : Data) (r : PageRequest) : Type 0 where
  pub table : r.table ≡ text_at name.TableName d
  pub index : r.index ≡ stated_text name.IndexName d
  pub filter : StatesCondition (known d) name.FilterExpression (stated_text name.FilterExpression d) r.filter
  pub projection : StatesPaths (known d) (stated_text name.ProjectionExpression d) r.projection
  pub values : map tree_of r.values ≡ (known d).values
  pub select : r.select ≡ option_map select_named (stated_text name.Select d)
  pub limit : r.limit ≡ stated_whole name.Limit d
  pub start : r.start ≡ stated_item name.ExclusiveStartKey d
  pub consistent : r.consistent ≡ flag_at name.ConsistentRead d
  pub capacity : r.capacity ≡ asks_capacity d

-- the expressions of a Scan
abbrev pub scan_asks : Data → Asks
scan_asks d = record {
  known = known d;
  expressions = showing (stated_text name.FilterExpression d) (stated_text name.ProjectionExpression d);
}

pub record StatesScan (d : Data) (r : Scan) : Type 0 where
  pub page : StatesPage d r.page
  pub segment : r.segment ≡ segment_of d

abbrev pub IsScan : Data → Result Scan Refusal → Type 0
IsScan = IsPart scan_asks StatesScan

-- the expressions of a Query
abbrev pub query_asks : Data → Asks
query_asks d = record {
  known = known d;
  expressions = querying (text_at name.KeyConditionExpression d) (stated_text name.FilterExpression d) (stated_text name.ProjectionExpression d);
}

-- rows come in ascending order, where nothing else is stated
pub record StatesQuery (d : Data) (r : Query) : Type 0 where
  pub page : StatesPage d r.page
  pub key_condition : ConditionOf (known d) name.KeyConditionExpression (text_at name.KeyConditionExpression d) (Ok (tree r.key_condition))
  pub forward : r.forward ≡ unwrap_or (stated_flag name.ScanIndexForward d) true

abbrev pub IsQuery : Data → Result Query Refusal → Type 0
IsQuery = IsPart query_asks StatesQuery

-- ---- what the code hands on

-- what a page states beside its expressions
abbrev pub rows : Data → Rows
rows d = record {
  table = text_at name.TableName d;
  index = stated_text name.IndexName d;
  select = option_map select_named (stated_text name.Select d);
  limit = stated_whole name.Limit d;
  start = stated_item name.ExclusiveStartKey d;
  consistent = flag_at name.ConsistentRead d;
  capacity = asks_capacity d;
}

-- how a page is put together
pub record IsPageOf (at : Rows) (t : PageTrees) (vs : List Value) (r : PageRequest) : Type 0 where
  pub table : r.table ≡ at.table
  pub index : r.index ≡ at.index
  pub filter : r.filter ≡ t.filter
  pub projection : r.projection ≡ t.projection
  pub values : r.values ≡ vs
  pub select : r.select ≡ at.select
  pub limit : r.limit ≡ at.limit
  pub start : r.start ≡ at.start
  pub consistent : r.consistent ≡ at.consistent
  pub capacity : r.capacity ≡ at.capacity
