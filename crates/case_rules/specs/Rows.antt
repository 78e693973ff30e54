-- The rows of indexes, and pages.
use Rattle.std.specs.Prelude.{ℕ, Bool, true, false, ◌&&◌, nat_eq, List, Option, None, Some}
use Rattle.std.specs.List.{filter}
use Rattle.index_feed.specs.declared.change.Row.{Row}
use Rattle.case_rules.specs.declared.key.Key.{Key}
use Rattle.case_rules.specs.declared.key.Name.{Name}
use Rattle.case_rules.specs.declared.item.Item.{Item}
use Rattle.case_rules.specs.declared.catalog.Catalog.{Catalog}
use Rattle.case_rules.specs.declared.catalog.Table.{Table}
use Rattle.case_rules.specs.declared.question.Question.{Question}
use Rattle.case_rules.specs.declared.question.Question.TheVariants.{Number, Page}
use Rattle.case_rules.specs.declared.question.Told.{Told}
use Rattle.case_rules.specs.declared.question.Told.TheVariants.{Numbered, NoTable, Rows}
use Rattle.case_rules.specs.Keys.{same_name}
use Rattle.case_rules.specs.Catalogs.{table_of, is_numbered, index_of}

-- the item of a row
abbrev pub item_of : Key → Key
item_of q = record q { customer = None }

-- an item's row stands under its customer, where that is known; a row has no rows
abbrev pub row_under : Option ℕ → Option ℕ → Key → Item → Option (Row Key Item)
row_under None (Some customer) k i = Some (record { key = record k { customer = Some customer }; content = i })
row_under _ _ k i = None

abbrev pub row_of : Key → Item → Option (Row Key Item)
row_of k i = row_under k.customer i.customer k i

abbrev pub number_told : Option Table → Told
number_told None = NoTable
number_told (Some t) = Numbered t.number

abbrev pub name_asked : Question → Name
name_asked (Number name) = name
name_asked (Page name table index place) = name

-- the number of a table
abbrev pub told : Catalog → Question → Told
told c q = number_told (table_of c (name_asked q))

abbrev pub page_place : Question → ℕ
page_place (Number name) = 0
page_place (Page name table index place) = place

abbrev pub page_index : Question → Option ℕ
page_index (Number name) = None
page_index (Page name table index place) = index

-- the number of the table that a page is of
abbrev pub page_table : Question → ℕ
page_table (Number name) = 0
page_table (Page name table index place) = table

-- a page of items has what it needs, and one of an index, where it is the table's
abbrev pub is_index : Option ℕ → Option ℕ → Bool
is_index None index = true
is_index (Some g) None = false
is_index (Some g) (Some h) = nat_eq g h

abbrev pub serves : Catalog → Question → Bool
serves c (Number name) = false
serves c (Page name table index place) = is_numbered (table_of c name) table && is_index index (index_of (table_of c name))

-- a key of the page's table
abbrev pub is_of : Question → Key → Bool
is_of (Number name) k = false
is_of (Page name table index place) k = same_name name k.name && nat_eq table k.table

-- a page shows those rows of its cell that are of its table
abbrev pub page : List (Key × Item) → Question → Told
page rows q = Rows (filter (λ r. is_of q r.0) rows)
