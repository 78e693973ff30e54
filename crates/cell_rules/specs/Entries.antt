-- The local entries of real tables.
use Rattle.std.specs.Prelude.{◌≡◌, ℕ, true}
use Rattle.attr_value.specs.Tree.{Attributes}
use Rattle.index_changes.specs.Commands.{KeepsEntries, alters}
use Rattle.index_changes.specs.Entries.{AreEntriesLawful, LocalEntries}
use Rattle.cell_model.specs.declared.key.CellKey.{CellKey}
use Rattle.cell_model.specs.declared.catalog.Catalog.{Catalog}
use Rattle.cell_model.specs.declared.command.CatalogCommand.{CatalogCommand}
use Rattle.cell_model.specs.declared.command.CatalogCommand.TheVariants.{Create, Drop, Change, TimeToLive}
use Rattle.cell_model.specs.Commands.{catalog_after, number_named}
use Rattle.cell_model.specs.Keys.{table_of}
use Rattle.cell_model.specs.Service.{service}
use Rattle.cell_rules.specs.TargetLaws.{none_altered}
use Rattle.cell_rules.specs.Targets.{IsSound, target}
use Rattle.cell_entries.specs.declared.entry.LocalEntry.{LocalEntry}
use Rattle.cell_entries.specs.LocalEntries.{entries_of, entry_order, item_of_entry}
use Rattle.cell_entries.specs.EntryLaws.{named, spared, updates_keep}

abbrev pub table_entries : LocalEntries CellKey Attributes Catalog LocalEntry
table_entries = record { entries = entries_of; item = item_of_entry }

pub entries_lawful : (partitions : ℕ) → AreEntriesLawful (service partitions) table_entries entry_order
entries_lawful partitions =
    record {
      named = λ c k v q among. named c k v q among;
      spared = λ d moment c k v clear away there. spared d moment c k v away there;
    }

pub entries_stay : (partitions : ℕ) → KeepsEntries (service partitions) table_entries IsSound target
entries_stay partitions = λ d moment c k v sound named altered there. stays d moment c k v altered
  where
    stays : (d : CatalogCommand) (moment : ℕ) (c : Catalog) (k : CellKey) (v : Attributes) → alters (target d c) (table_of k) ≡ true
        → entries_of (catalog_after d moment c) k v ≡ entries_of c k v
    stays (Create schema) moment c k v altered = absurd (cc)
    stays (Drop name) moment c k v altered = absurd (none_altered (number_named c.tables name) (table_of k) altered)
    stays (Change name update) moment c k v altered = updates_keep name update moment c k v
    stays (TimeToLive name attribute enabled) moment c k v altered = absurd (cc)
