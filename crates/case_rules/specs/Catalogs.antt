-- The tables that are there, and commands that change them.
use Rattle.std.specs.Prelude.{ℕ, suc, Bool, false, nat_eq, nat_lt, List, [], ◌∷◌, Option, None, Some, if◌then◌else◌, max}
use Rattle.std.specs.Option.{option_to_list}
use Rattle.case_rules.specs.declared.key.Name.{Name}
use Rattle.case_rules.specs.declared.key.Name.TheVariants.{Orders, Payments}
use Rattle.case_rules.specs.declared.key.Key.{Key}
use Rattle.case_rules.specs.declared.item.Item.{Item}
use Rattle.case_rules.specs.declared.catalog.Table.{Table}
use Rattle.case_rules.specs.declared.catalog.Catalog.{Catalog}
use Rattle.case_rules.specs.declared.catalog.Command.{Command}
use Rattle.case_rules.specs.declared.catalog.Command.TheVariants.{Create, AddIndex, Drop}
use Rattle.case_rules.specs.Keys.{same_key}

abbrev pub no_table : Catalog
no_table = record { orders = None; payments = None; drawn_before = 0 }

abbrev pub table_of : Catalog → Name → Option Table
table_of c Orders = c.orders
table_of c Payments = c.payments

-- the catalog with this in place of a table
abbrev pub with_table : Catalog → Name → Option Table → Catalog
with_table c Orders t = record c { orders = t }
with_table c Payments t = record c { payments = t }

abbrev pub number_or_0 : Option ℕ → ℕ
number_or_0 None = 0
number_or_0 (Some n) = n

-- the greatest number that a table has: its own, or its index's
abbrev pub top : Option Table → ℕ
top None = 0
top (Some t) = max t.number (number_or_0 t.index)

-- the greatest number that was drawn: one that is there, or an earlier one
abbrev pub drawn : Catalog → ℕ
drawn c = max c.drawn_before (max (top c.orders) (top c.payments))

-- the number after it, where it is at most 5
abbrev pub number_after : ℕ → Option ℕ
number_after n = if nat_lt n 5 then Some (suc n) else None

-- the table is there, under this number
abbrev pub is_numbered : Option Table → ℕ → Bool
is_numbered None n = false
is_numbered (Some t) n = nat_eq t.number n

abbrev pub has_table : Catalog → Key → Bool
has_table c k = is_numbered (table_of c k.name) k.table

-- the index of the table under this number
abbrev pub indexes_in : Option Table → ℕ → List ℕ
indexes_in None n = []
indexes_in (Some t) n = if nat_eq t.number n then option_to_list t.index else []

abbrev pub indexes : Catalog → Key → List ℕ
indexes c k = indexes_in (table_of c k.name) k.table

abbrev pub index_of : Option Table → Option ℕ
index_of None = None
index_of (Some t) = t.index

-- a new table under this number, or where there is no number, the old one
abbrev pub created : Option ℕ → Option Table → Option Table
created None old = old
created (Some n) old = Some (record { number = n; index = None })

-- the table with a new index of this number
abbrev pub with_index : Option ℕ → Option Table → Option Table
with_index None old = old
with_index (Some n) None = None
with_index (Some n) (Some t) = Some (record t { index = Some n })

abbrev pub name_of : Command → Name
name_of (Create name first) = name
name_of (AddIndex name) = name
name_of (Drop name) = name

-- the table that a command changes or takes away
abbrev pub subject : Command → Catalog → Option Table
subject (Create name first) c = None
subject (AddIndex name) c = table_of c name
subject (Drop name) c = table_of c name

-- what a command makes of its table, by the number that comes next
abbrev pub table_after : Command → Option ℕ → Option Table → Option Table
table_after (Create name first) next old = created next old
table_after (AddIndex name) next old = with_index next old
table_after (Drop name) next old = None

abbrev pub catalog_after : Command → Catalog → Catalog
catalog_after d c =
    let t = table_after d (number_after (drawn c)) (table_of c (name_of d)) in
    record (with_table c (name_of d) t) { drawn_before = drawn c }

-- the item under 0 that comes with a new table, with its key
abbrev pub first_at : Name → Item → Option ℕ → Option (Key × Item)
first_at name item None = None
first_at name item (Some n) = Some (record { name = name; table = n; customer = None; number = 0 }, item)

abbrev pub first_of : Command → Catalog → Option (Key × Item)
first_of (Create name (Some item)) c = first_at name item (number_after (drawn c))
first_of _ c = None

abbrev pub key_in : Option (Key × Item) → List Key
key_in None = []
key_in (Some x) = x.0 ∷ []

abbrev pub item_in : Option (Key × Item) → Key → Option Item
item_in None k = None
item_in (Some x) k = if same_key x.0 k then Some x.1 else None
