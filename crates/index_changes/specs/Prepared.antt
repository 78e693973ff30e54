-- What is prepared for an item.
use Rattle.std.specs.Prelude.{◌≡◌, ℕ, List, [], length, Option, None, Some}
use Rattle.std.specs.BTreeMap.{BTreeMap, get, values}
use Rattle.std.specs.List.{sum_by}
use Rattle.std.specs.declared.cmp.Ordering.{Ordering}
use Rattle.index_feed.specs.declared.change.Change.{Change}
use Rattle.index_changes.specs.declared.change.IndexChanges.{IndexChanges}

-- no rows change, and there are no entries before and after
pub record IsNothing {K V N : Type 0} (rows : List (Change K V)) (old new : List N) : Type 0 where
  pub no_rows : rows ≡ []
  pub none_before : old ≡ []
  pub none_after : new ≡ []

-- an item's local entries before a change and after it
pub record Moves (N : Type 0) : Type 0 where
  pub old : List N
  pub new : List N

abbrev pub no_moves : {N : Type 0} → Moves N
no_moves = record { old = []; new = [] }

module _ {K V N : Type 0} where
  -- the changes of rows and the moves of entries, where something is prepared
  abbrev pub rows_of : Option (IndexChanges K V N) → List (Change K V)
  rows_of None = []
  rows_of (Some x) = x.rows.items

  abbrev pub moves_of : Option (IndexChanges K V N) → Moves N
  moves_of None = no_moves
  moves_of (Some x) = record { old = x.old.items; new = x.new.items }

  -- how many changes of rows are prepared for all items together
  abbrev pub places_in : BTreeMap K (IndexChanges K V N) → ℕ
  places_in lists = sum_by (λ x. length x.rows.items) (values lists)

module _ {K V N : Type 0} (cmp : K → K → Ordering) where
  -- the changes of rows and the moves of entries that are prepared for an item
  abbrev pub prepared_in : BTreeMap K (IndexChanges K V N) → K → List (Change K V)
  prepared_in lists q = rows_of (get cmp lists q)

  abbrev pub moves_in : BTreeMap K (IndexChanges K V N) → K → Moves N
  moves_in lists q = moves_of (get cmp lists q)

  -- each item has what it had
  pub record SameLists (s t : BTreeMap K (IndexChanges K V N)) : Type 0 where
    pub each : (q : K) → prepared_in t q ≡ prepared_in s q
    pub moves : (q : K) → moves_in t q ≡ moves_in s q
    pub places : places_in t ≡ places_in s
