-- The places of an index.
use Rattle.std.specs.Prelude.{List, [], map, Bool, is_some}
use Rattle.std.specs.Map.{lookup}
use Rattle.std.specs.BTreeMap.{is_at}
use Rattle.table_schema.specs.declared.keys.KeyNames.{KeyNames}
use Rattle.table_schema.specs.declared.schema.Schema.{Schema}
use Rattle.row_keys.specs.declared.position.Position.{Position}
use Rattle.row_keys.specs.Keys.{position_order}
use Rattle.row_keys.specs.Rows.{Rows, Entries, index_of}
use Rattle.table_rows.specs.declared.moves.Move.{Move}

abbrev pub PlaceList : Type 0
PlaceList = List (Position × Unit {0})

pub record IndexView : Type 0 where
  pub keys : KeyNames
  pub places : PlaceList
  pub moves : List Move

-- entries without their items
abbrev pub places_of : Entries → PlaceList
places_of entries = map (λ entry. (entry.0, tt)) entries

-- the index of these rows, where nothing is prepared
abbrev pub index_over : Schema → Rows → KeyNames → IndexView
index_over schema rows keys = record { keys = keys; places = places_of (index_of schema keys rows); moves = [] }

-- the place is there
abbrev pub has_place : PlaceList → Position → Bool
has_place places place = is_some (lookup (is_at (position_order place)) places)
