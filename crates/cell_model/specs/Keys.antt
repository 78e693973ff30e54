-- The keys of what cells keep: their order, which are one, and the cell of each.
use Rattle.std.specs.Prelude.{ℕ, ◌*◌, ◌/◌, ◌%◌, ◌^◌, Bool}
use Rattle.std.specs.Ordering.{nat_cmp, ordering_then, is_eq}
use Rattle.std.specs.declared.cmp.Ordering.{Ordering}
use Rattle.std.specs.declared.cmp.Ordering.TheVariants.{Less, Greater}
use Rattle.row_keys.specs.Keys.{row_order, position_order}
use Rattle.cell_model.specs.declared.key.ItemKey.{ItemKey}
use Rattle.cell_model.specs.declared.key.IndexRowKey.{IndexRowKey}
use Rattle.cell_model.specs.declared.key.CellKey.{CellKey}
use Rattle.cell_model.specs.declared.key.CellKey.TheVariants.{Item, Row}

-- items: by table, and then as a Scan gives them
abbrev pub item_order : ItemKey → ItemKey → Ordering
item_order a b = ordering_then (nat_cmp a.table b.table) (row_order a.key b.key)

-- rows of indexes: by table, by index, and then in the order of the index
abbrev pub index_row_order : IndexRowKey → IndexRowKey → Ordering
index_row_order a b =
    ordering_then (nat_cmp a.table b.table) (ordering_then (nat_cmp a.index b.index) (position_order a.at b.at))

-- items before rows of indexes
unfoldable pub key_order : CellKey → CellKey → Ordering
key_order (Item a) (Item b) = item_order a b
key_order (Row a) (Row b) = index_row_order a b
key_order (Item a) (Row b) = Less
key_order (Row a) (Item b) = Greater

-- both keys are one
abbrev pub same_key : CellKey → CellKey → Bool
same_key a b = is_eq (key_order a b)

-- the number of the key's table
abbrev pub table_of : CellKey → ℕ
table_of (Item key) = key.table
table_of (Row key) = key.table

-- the place by which its cell is told: of an index row, that of the index's partition key
abbrev pub place_of : CellKey → ℕ
place_of (Item key) = key.key.place
place_of (Row key) = key.at.read.place

-- places are cut into as many parts of one length as there are partitions, and this is the part of a place
unfoldable pub cell_at : ℕ → ℕ → ℕ
cell_at partitions place = (place % 2 ^ 64) * partitions / 2 ^ 64

-- the item that a key is of: an index row's key names it
abbrev pub item_of : CellKey → CellKey
item_of (Item key) = Item key
item_of (Row key) = Item (record { table = key.table; key = key.at.item })
