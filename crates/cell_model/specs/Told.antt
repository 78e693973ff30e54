-- What is told, taken out of an answer of the catalog, and the answer that tells it.
use Rattle.std.specs.Prelude.{Option, None, Some}
use Rattle.table_schema.specs.declared.schema.Schema.{Schema}
use Rattle.cell_model.specs.declared.answer.TableLook.{TableLook}
use Rattle.cell_model.specs.declared.answer.NameList.{NameList}
use Rattle.cell_model.specs.declared.answer.Part.{Part}
use Rattle.cell_model.specs.declared.answer.CatalogAnswer.{CatalogAnswer}
use Rattle.cell_model.specs.declared.answer.CatalogAnswer.TheVariants as answer

abbrev pub look_in : CatalogAnswer → Option TableLook
look_in (answer.Table number schema indexes) = Some (record { number = number; schema = schema; indexes = indexes })
look_in _ = None

abbrev pub schema_in : CatalogAnswer → Option Schema
schema_in (answer.Dropped schema) = Some schema
schema_in (answer.Changed schema) = Some schema
schema_in _ = None

abbrev pub names_in : CatalogAnswer → Option NameList
names_in (answer.NameList names more) = Some (record { names = names; more = more })
names_in _ = None

abbrev pub part_in : CatalogAnswer → Option Part
part_in (answer.Part rows room stopped) = Some (record { rows = rows; room = room; stopped = stopped })
part_in _ = None

-- what tells of a table, or that none has the name
abbrev pub told_look : Option TableLook → CatalogAnswer
told_look None = answer.NoTable
told_look (Some look) = answer.Table look.number look.schema look.indexes

abbrev pub told_names : NameList → CatalogAnswer
told_names list = answer.NameList list.names list.more

abbrev pub told_part : Part → CatalogAnswer
told_part part = answer.Part part.rows part.room part.stopped
