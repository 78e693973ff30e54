-- Where items stand in the local order of their table.
use Rattle.std.specs.Prelude.{ℕ, List, [], ◌∷◌, Option, None, Some}
use Rattle.std.specs.declared.cmp.Ordering.{Ordering}
use Rattle.std.specs.Ordering.{nat_cmp, ordering_then}
use Rattle.index_changes.specs.Entries.{LocalEntries}
use Rattle.case_rules.specs.declared.key.Key.{Key}
use Rattle.case_rules.specs.declared.item.Item.{Item}
use Rattle.case_rules.specs.declared.entry.ShopEntry.{ShopEntry}
use Rattle.case_rules.specs.declared.catalog.Catalog.{Catalog}
use Rattle.case_rules.specs.Keys.{key_cmp}

-- by amount, and then by item
abbrev pub entry_cmp : ShopEntry → ShopEntry → Ordering
entry_cmp x y = ordering_then (nat_cmp x.amount y.amount) (key_cmp x.item y.item)

-- an item has one entry, where its customer is known
abbrev pub entries_under : Option ℕ → Key → Item → List ShopEntry
entries_under None k i = []
entries_under (Some customer) k i = record { amount = i.amount; item = k } ∷ []

abbrev pub entries_of : Key → Item → List ShopEntry
entries_of k i = entries_under i.customer k i

abbrev pub local_entries : LocalEntries Key Item Catalog ShopEntry
local_entries = record { entries = λ c k i. entries_of k i; item = λ e. e.item }
