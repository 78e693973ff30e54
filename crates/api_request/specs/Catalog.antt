-- What the bodies of DeleteTable, DescribeTable, ListTables, UpdateTimeToLive and DescribeTimeToLive state.
use Rattle.std.specs.Prelude.{◌≡◌, unwrap_or}
use Rattle.serde_json.specs.Data.{Data}
use Rattle.api_form.specs.declared.name.Name.TheVariants as name
use Rattle.table_request.specs.declared.tables.DeleteTable.{DeleteTable}
use Rattle.table_request.specs.declared.tables.DescribeTable.{DescribeTable}
use Rattle.table_request.specs.declared.tables.ListTables.{ListTables}
use Rattle.table_request.specs.declared.time_to_live.UpdateTimeToLive.{UpdateTimeToLive}
use Rattle.table_request.specs.declared.time_to_live.DescribeTimeToLive.{DescribeTimeToLive}
use Rattle.request_parts.specs.Members.{text_at, stated_text, stated_whole, flag_at, object_at}

abbrev pub IsDeleteTable : Data → DeleteTable → Type 0
IsDeleteTable d r = r.table ≡ text_at name.TableName d

abbrev pub IsDescribeTable : Data → DescribeTable → Type 0
IsDescribeTable d r = r.table ≡ text_at name.TableName d

-- 100 names are answered at most, where no limit is stated
pub record IsListTables (d : Data) (r : ListTables) : Type 0 where
  pub after : r.after ≡ stated_text name.ExclusiveStartTableName d
  pub limit : r.limit ≡ unwrap_or (stated_whole name.Limit d) 100

-- what is stated of the time to live, which the form has
abbrev pub specification : Data → Data
specification d = unwrap_or (object_at name.TimeToLiveSpecification d) d

pub record IsUpdateTimeToLive (d : Data) (r : UpdateTimeToLive) : Type 0 where
  pub table : r.table ≡ text_at name.TableName d
  pub named : r.name ≡ text_at name.AttributeName (specification d)
  pub enabled : r.enabled ≡ flag_at name.Enabled (specification d)

abbrev pub IsDescribeTimeToLive : Data → DescribeTimeToLive → Type 0
IsDescribeTimeToLive d r = r.table ≡ text_at name.TableName d
