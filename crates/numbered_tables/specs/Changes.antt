-- Changes of items of several tables, made one after the other.
use Rattle.std.specs.Prelude.{◌≡◌, ℕ, List, [], ◌∷◌, Bool, false, ◌&&◌, ◌||◌, bytes_eq, Option, None, Some}
use Rattle.std.specs.List.{list_any}
use Rattle.std.specs.BTreeMap.{is_at}
use Rattle.client_tokens.specs.TokenMap.{TokenMap}
use Rattle.row_keys.specs.Keys.{row_order}
use Rattle.table_model.specs.declared.action.NumberedAction.{NumberedAction}
use Rattle.table_model.specs.Database.{Database, Table, table_named, with_row}
use Rattle.numbered_tables.specs.Tables.{Kept, database_in}
use Rattle.numbered_tables.specs.declared.change.TableChange.{TableChange}

-- two changes are of one item
abbrev pub is_same : TableChange → TableChange → Bool
is_same a b = bytes_eq a.table b.table && is_at (row_order a.key) b.key

-- some item is changed twice
abbrev pub has_repeat : List TableChange → Bool
has_repeat [] = false
has_repeat (change ∷ changes) = list_any (is_same change) changes || has_repeat changes

abbrev pub changed_if : Database → TableChange → Option Table → Database
changed_if db change None = db
changed_if db change (Some table) = with_row db change.table table change.key change.new

-- one change is made, where its table is there
abbrev pub changed : Database → TableChange → Database
changed db change = changed_if db change (table_named db change.table)

-- changes are made, one after the other
abbrev pub changed_all : Database → List TableChange → Database
changed_all db [] = db
changed_all db (change ∷ changes) = changed_all (changed db change) changes

-- the database of the new tables is that of the old ones with the changes made, whatever its tokens and number
abbrev pub IsChanged : Kept → List TableChange → Kept → Type 0
IsChanged old changes new =
    (tokens : TokenMap (List NumberedAction)) (made : ℕ)
    → database_in new tokens made ≡ changed_all (database_in old tokens made) changes
