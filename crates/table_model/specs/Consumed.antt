-- What a request uses of the tables' capacity, where that is to be told (API Reference: ConsumedCapacity; Developer Guide:
-- Capacity unit consumption).
use Rattle.std.specs.Prelude.{ℕ, List, sum_by, max, Bool, if◌then◌else◌, Option, None, Some}
use Rattle.attr_value.specs.Tree.{Attributes}
use Rattle.attr_value.specs.Sizes.{item_size}
use Rattle.capacity.specs.declared.halves.Mode.{Mode}
use Rattle.capacity.specs.declared.halves.Mode.TheVariants.{Eventual, Consistent}
use Rattle.capacity.specs.Units.{counted, write_halves}
use Rattle.table_request.specs.declared.consumed.Consumed.{Consumed}

-- told only where it is asked for
abbrev pub where_asked : {A : Type 0} → Bool → A → Option A
where_asked asked used = if asked then Some used else None

-- the bytes of an item, none where it is not there
abbrev pub bytes_of : Option Attributes → ℕ
bytes_of None = 0
bytes_of (Some item) = counted (item_size item)

abbrev pub read_mode : Bool → Mode
read_mode consistent = if consistent then Consistent else Eventual

-- a write counts by the greater of the item as it was and as it is
abbrev pub halves_written : Option Attributes → Option Attributes → ℕ
halves_written old new = write_halves Consistent (max (bytes_of old) (bytes_of new))

-- what was used of a table
abbrev pub used_of : List ℕ → ℕ → Consumed
used_of table halves = record { table = table; halves = halves }

-- several reads or writes of a table count each by itself
abbrev pub used_by_all : {A : Type 0} → List ℕ → (A → ℕ) → List A → Consumed
used_by_all table halves all = used_of table (counted (sum_by halves all))
