-- What was used of tables, added up by their names (API Reference: ConsumedCapacity).
use Rattle.std.specs.Prelude.{ℕ, ◌+◌, List, [], ◌∷◌, map, unwrap_or}
use Rattle.std.specs.Ordering.{nat_cmp}
use Rattle.std.specs.Cmp.Lexicographic.{slice_cmp}
use Rattle.std.specs.Map.{lookup}
use Rattle.std.specs.BTreeMap.{is_at, insert_entry}
use Rattle.capacity.specs.Units.{counted}
use Rattle.table_request.specs.declared.consumed.Consumed.{Consumed}

-- the halves of each table, by the names in order
abbrev pub Used : Type 0
Used = List (List ℕ × ℕ)

abbrev pub halves_of : Used → List ℕ → ℕ
halves_of used table = unwrap_or (lookup (is_at (slice_cmp nat_cmp table)) used) 0

-- with what was used of one more
abbrev pub with_use : Used → Consumed → Used
with_use used more = insert_entry (slice_cmp nat_cmp) used more.table (counted (halves_of used more.table + more.halves))

abbrev pub with_uses : Used → List Consumed → Used
with_uses used [] = used
with_uses used (more ∷ others) = with_uses (with_use used more) others

abbrev pub consumed_of : List ℕ × ℕ → Consumed
consumed_of entry = record { table = entry.0; halves = entry.1 }

-- what was used of each table, in the order of the names
abbrev pub by_table : List Consumed → List Consumed
by_table uses = map consumed_of (with_uses [] uses)
