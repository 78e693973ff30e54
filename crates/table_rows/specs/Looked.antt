-- Places of an index with the items that stand there.
use Rattle.row_keys.specs.Rows.{Rows, Entries, item_at}
use Rattle.table_rows.specs.Places.{PlaceList}
use Rattle.table_rows.specs.Found.{found_for, AllFound}

-- the places, each with the item of the rows at its key
abbrev pub looked : Rows → PlaceList → Entries
looked rows places = found_for (λ place. item_at rows place.0.item) places

-- at each place an item stands
abbrev pub AllThere : Rows → PlaceList → Type 0
AllThere rows places = AllFound (λ place. item_at rows place.0.item) places
