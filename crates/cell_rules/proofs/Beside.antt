-- The entries beside a cell's items are those of what is shown of these.
use Rattle.std.specs.Prelude.{Option, None, Some, option_and_then}
use Rattle.std.specs.BTreeMap.{BTreeMap, get}
use Rattle.std.proofs.Common.{◌≡◌, refl, ap, ◌∙◌}
use Rattle.attr_value.specs.Tree.{Attributes}
use Rattle.item_store.specs.declared.slot.Slot.{Slot}
use Rattle.item_store.specs.Slots.{row_of}
use Rattle.local_index.specs.declared.claim.Claim.{Claim}
use Rattle.local_index.specs.Entries.{is_among}
use Rattle.index_changes.specs.Entries.{entries_at}
use Rattle.partition.specs.Pages.{AreEntriesOf}
use Rattle.cell_model.specs.declared.key.CellKey.{CellKey}
use Rattle.cell_model.specs.declared.catalog.Catalog.{Catalog}
use Rattle.cell_model.specs.Keys.{key_order}
use Rattle.cell_entries.specs.declared.entry.LocalEntry.{LocalEntry}
use Rattle.cell_entries.specs.LocalEntries.{entry_order, item_of_entry}
use Rattle.cell_entries.specs.Met.{AreEntriesOf as AreOfShown, entries_if}
use Rattle.cell_rules.specs.Entries.{table_entries}

-- what is shown of what a cell keeps of an item: the committed one
abbrev pub committed : Slot Attributes → Option Attributes
committed slot = row_of (Some slot)

module _ (catalog : Catalog) (key : CellKey) where
  same_entries : (item : Option Attributes) → entries_at table_entries catalog key item ≡ entries_if catalog key item
  same_entries None = refl
  same_entries (Some item) = refl

  shown_entries : (kept : Option (Slot Attributes)) → entries_at table_entries catalog key (row_of kept) ≡ entries_if catalog key (option_and_then committed kept)
  shown_entries None = refl
  shown_entries (Some slot) = same_entries (row_of (Some slot))

pub are_shown : (catalog : Catalog) (items : BTreeMap CellKey (Slot Attributes)) (entries : BTreeMap LocalEntry Claim)
    → AreEntriesOf table_entries key_order entry_order catalog items entries → AreOfShown committed catalog items entries
are_shown catalog items entries are = λ q.
    are q ∙ ap (λ es. is_among entry_order es q) (shown_entries catalog (item_of_entry q) (get key_order items (item_of_entry q)))
