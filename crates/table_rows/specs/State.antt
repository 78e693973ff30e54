-- What is kept in a table: slots, changes that are prepared, and indexes in step with the rows.
use Rattle.std.specs.Prelude.{◌≡◌, List, [], ◌∷◌, ◌++◌, map, Bool, true, false, not, ◌&&◌, ◌||◌, ⊤, is_some}
use Rattle.std.specs.List.{AllByRecursion}
use Rattle.std.specs.List.Sorted.{IsStrictlySortedBy}
use Rattle.std.specs.Map.{keys_of}
use Rattle.table_schema.specs.declared.keys.KeyNames.{KeyNames}
use Rattle.table_schema.specs.declared.schema.Schema.{Schema}
use Rattle.row_keys.specs.declared.position.Position.{Position}
use Rattle.row_keys.specs.declared.row_key.RowKey.{RowKey}
use Rattle.row_keys.specs.Keys.{row_order, position_order}
use Rattle.row_keys.specs.Rows.{Rows, item_at, index_keys}
use Rattle.table_rows.specs.declared.change.RowChange.{RowChange}
use Rattle.table_rows.specs.declared.moves.Move.{Move}
use Rattle.table_rows.specs.View.{is_pending}
use Rattle.table_rows.specs.Slots.{SlotList, rows_of, has_slot}
use Rattle.table_rows.specs.Moves.{is_place, comes, goes, spot_of, move_in}
use Rattle.table_rows.specs.Places.{IndexView, has_place}

-- the rows tell of this place of an index: their item at its key stands there
abbrev pub told : Schema → KeyNames → Rows → Position → Bool
told schema keys rows place = is_place (spot_of schema keys place.item (item_at rows place.item)) place

-- what each change moves in an index
abbrev pub moves_by : Schema → KeyNames → Rows → List RowChange → List Move
moves_by schema keys rows changes = map (λ change. move_in schema keys change.key (item_at rows change.key) change.new) changes

-- the index has exactly the places that the rows tell of, and those that come by what is prepared
pub record IsIndex (schema : Schema) (rows : Rows) (pending : List RowChange) (index : IndexView) : Type 0 where
  pub moves : index.moves ≡ moves_by schema index.keys rows pending
  pub places : (place : Position) → has_place index.places place ≡ (told schema index.keys rows place || comes index.moves place)

-- no two changes are of one key
abbrev pub AreDistinct : List RowChange → Type 0
AreDistinct [] = ⊤
AreDistinct (change ∷ changes) = (is_pending changes change.key ≡ false) × AreDistinct changes

-- a key has a slot exactly where it has an item or a change of its item is prepared
abbrev pub AreInStep : SlotList → List RowChange → Type 0
AreInStep slots changes = (key : RowKey) → has_slot slots key ≡ (is_some (item_at (rows_of slots) key) || is_pending changes key)

-- what is kept belongs together
pub record IsKept (schema : Schema) (slots : SlotList) (pending : List RowChange) (indexes : List IndexView) : Type 0 where
  pub ordered : IsStrictlySortedBy row_order (keys_of (rows_of slots))
  pub distinct : AreDistinct pending
  pub slots_in_step : AreInStep slots pending
  pub have_keys : map (λ index. index.keys) indexes ≡ index_keys schema
  pub in_step : AllByRecursion (IsIndex schema (rows_of slots) pending) indexes

-- ---- steps of one index

-- an index without rows
abbrev pub empty_index : KeyNames → IndexView
empty_index keys = record { keys = keys; places = []; moves = [] }

-- the place that comes by a move is not there yet
abbrev pub IsFresh : Move → IndexView → Type 0
IsFresh step index = (place : Position) → is_place step.come place ≡ true → has_place index.places place ≡ false

-- one more move is held, and the place that comes by it is there
pub record IsHeld (step : Move) (old new : IndexView) : Type 0 where
  pub ordered : IsStrictlySortedBy position_order (keys_of old.places)
  pub keys : new.keys ≡ old.keys
  pub moves : new.moves ≡ old.moves ++ step ∷ []
  pub places : (place : Position) → has_place new.places place ≡ (is_place step.come place || has_place old.places place)

-- the moves that were held are made
pub record IsSettled (old new : IndexView) : Type 0 where
  pub keys : new.keys ≡ old.keys
  pub moves : new.moves ≡ []
  pub places : (place : Position) → has_place new.places place ≡ (has_place old.places place && not (goes old.moves place))

-- the moves that were held are given up
pub record IsUndone (old new : IndexView) : Type 0 where
  pub keys : new.keys ≡ old.keys
  pub moves : new.moves ≡ []
  pub places : (place : Position) → has_place new.places place ≡ (has_place old.places place && not (comes old.moves place))

-- what a change moves in an index, by the rows
abbrev pub step_in : Schema → Rows → RowChange → IndexView → Move
step_in schema rows change index = move_in schema index.keys change.key (item_at rows change.key) change.new
