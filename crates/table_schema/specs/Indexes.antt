-- The indexes of a schema, one after another, as the code sees them.
use Rattle.std.specs.Prelude.{List}
use Rattle.table_schema.specs.declared.indexes.IndexView.{IndexView}
use Rattle.table_schema.specs.declared.indexes.Indexes.{Indexes}
use Rattle.table_schema.specs.declared.stated.StatedIndex.{StatedIndex}
use Rattle.table_schema.specs.Key.{elements_of}
use Rattle.table_schema.specs.Index.{joined}

-- what a view shows
abbrev pub shown : IndexView → StatedIndex
shown view = record { name = view.name.now; keys = elements_of view.keys.now; projection = view.projection.now }

-- the indexes that are left
abbrev pub rest_of : Indexes → List StatedIndex
rest_of indexes = joined indexes.locals.now indexes.globals.now
