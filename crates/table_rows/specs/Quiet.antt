-- Seconds at which nothing of a table is expired.
use Rattle.std.specs.Prelude.{◌≡◌, ℕ, ℤ, Bool, true, false, not, ◌&&◌, nat_le, filter, Option, None, Some, ⊤}
use Rattle.std.specs.List.{AllByRecursion}
use Rattle.attr_value.specs.Tree.{Attributes}
use Rattle.table_schema.specs.declared.schema.Schema.{Schema}
use Rattle.row_keys.specs.Expiry.{is_below, is_expired}
use Rattle.row_keys.specs.Rows.{Rows}
use Rattle.table_rows.specs.View.{TableView}
use Rattle.table_rows.specs.declared.quiet.Quiet.{Quiet}

-- ---- rows that are expired

abbrev pub expired_rows : Schema → ℕ → Rows → Rows
expired_rows schema second rows = filter (λ row. is_expired schema.ttl row.1 second) rows

-- a slot has an item that is expired
abbrev pub is_expired_slot : Schema → ℕ → Option Attributes → Bool
is_expired_slot schema second None = false
is_expired_slot schema second (Some item) = is_expired schema.ttl item second

-- ---- seconds

abbrev pub quiet_from : ℕ → Quiet
quiet_from second = record { from = second; until = None }

abbrev pub is_up_to : Option ℤ → ℕ → Bool
is_up_to None second = true
is_up_to (Some until) second = not (is_below until second)

-- the second is one of them
abbrev pub is_within : Quiet → ℕ → Bool
is_within quiet second = nat_le quiet.from second && is_up_to quiet.until second

-- the new ones are among the old ones
unfoldable pub Narrows : Quiet → Quiet → Type 0
Narrows old new = (second : ℕ) → is_within new second ≡ true → is_within old second ≡ true

-- and not above a number
pub record NarrowsTo (until : ℤ) (old new : Quiet) : Type 0 where
  pub narrower : Narrows old new
  pub from : new.from ≡ old.from
  pub below : (second : ℕ) → is_within new second ≡ true → is_below until second ≡ false

-- at none of them is the item expired that may be there
unfoldable pub IsQuietFor : Quiet → Schema → Option Attributes → Type 0
IsQuietFor quiet schema None = ⊤
IsQuietFor quiet schema (Some item) = (second : ℕ) → is_within quiet second ≡ true → is_expired schema.ttl item second ≡ false

-- they are among seconds that were known, and at none of them is the item expired that may be there
pub record IsWatched (known : Option Quiet) (schema : Schema) (item : Option Attributes) (quiet : Quiet) : Type 0 where
  pub old : Quiet
  pub known_is : known ≡ Some old
  pub narrower : Narrows old quiet
  pub quiet_for : IsQuietFor quiet schema item

-- nor is any of the rows
unfoldable pub AreQuiet : Quiet → Schema → Rows → Type 0
AreQuiet quiet schema rows = AllByRecursion (λ row. IsQuietFor quiet schema (Some row.1)) rows

-- nor is any row of the table, or an item that is prepared
pub record IsQuiet (quiet : Quiet) (view : TableView) : Type 0 where
  pub rows : AreQuiet quiet view.schema view.rows
  pub pending : AllByRecursion (λ change. IsQuietFor quiet view.schema change.new) view.pending
