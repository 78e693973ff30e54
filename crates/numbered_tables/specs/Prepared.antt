-- Changes that are prepared in tables as they are kept, and that are made or dropped there.
use Rattle.std.specs.Prelude.{ℕ, List, [], ◌∷◌, ◌++◌, map, Bool, false, if◌then◌else◌, Option, None, Some}
use Rattle.std.specs.Ordering.{nat_cmp}
use Rattle.std.specs.Cmp.Lexicographic.{slice_cmp}
use Rattle.std.specs.Map.{lookup}
use Rattle.std.specs.BTreeMap.{is_at}
use Rattle.row_keys.specs.declared.row_key.RowKey.{RowKey}
use Rattle.table_rows.specs.declared.change.RowChange.{RowChange}
use Rattle.table_rows.specs.View.{is_pending, committed}
use Rattle.numbered_tables.specs.declared.table.NumberedTable.{NumberedTable}
use Rattle.numbered_tables.specs.Tables.{Kept}
use Rattle.numbered_tables.specs.declared.change.TableChange.{TableChange}

-- the change names the table of this name
abbrev pub names : TableChange → List ℕ → Bool
names change name = is_at (slice_cmp nat_cmp change.table) name

-- a change, as the table that it names has it
abbrev pub change_in : TableChange → RowChange
change_in change = record { key = change.key; new = change.new }

-- the table with these changes prepared, and no others
abbrev pub with_pending : NumberedTable → List RowChange → NumberedTable
with_pending t changes = record { number = t.number; rows = record { schema = t.rows.schema; rows = t.rows.rows; pending = changes } }

-- the changes that name a table, the last one first, which is the order in which a table makes them
abbrev pub pending_of : List ℕ → List TableChange → List RowChange
pending_of name [] = []
pending_of name (change ∷ changes) =
    if names change name then pending_of name changes ++ change_in change ∷ [] else pending_of name changes

-- these changes are prepared, each in its table, and no others
abbrev pub prepared : List TableChange → Kept → Kept
prepared changes entries = map (λ entry. (entry.0, with_pending entry.1 (pending_of entry.0 changes))) entries

-- one more change is prepared
abbrev pub prepared_one : TableChange → Kept → Kept
prepared_one change entries =
    map
    (λ entry. (entry.0, (if names change entry.0 then with_pending entry.1 (entry.1.rows.pending ++ change_in change ∷ []) else entry.1)))
    entries

abbrev pub is_pending_if : Option NumberedTable → RowKey → Bool
is_pending_if None key = false
is_pending_if (Some t) key = is_pending t.rows.pending key

-- a change of the item that this one changes is prepared
abbrev pub is_pending_in : Kept → TableChange → Bool
is_pending_in entries change = is_pending_if (lookup (names change) entries) change.key

-- what is prepared is made, in every table
abbrev pub committed_in : NumberedTable → NumberedTable
committed_in t =
    record { number = t.number; rows = record { schema = t.rows.schema; rows = committed t.rows.rows t.rows.pending; pending = [] } }

abbrev pub committed_all : Kept → Kept
committed_all entries = map (λ entry. (entry.0, committed_in entry.1)) entries

-- what is prepared is dropped, in every table
abbrev pub aborted_all : Kept → Kept
aborted_all entries = map (λ entry. (entry.0, with_pending entry.1 [])) entries
