-- Entries that are added one index after the other.
use Rattle.std.proofs.Common.{◌≡◌, ℕ, ◌+◌, ◌<◌, ◌≤◌, ◌∷◌, ◌++◌, List, length, drop, get_or, sym, ap, ◌∙◌}
use Rattle.std.proofs.lemmas.List.{append_assoc, append-nil, drop_all, drop_more}
use Rattle.attr_value.specs.Tree.{Attributes}
use Rattle.table_schema.specs.declared.index.LocalIndex.{LocalIndex}
use Rattle.table_schema.specs.declared.schema.Schema.{Schema}
use Rattle.row_keys.specs.Rows.{position_in}
use Rattle.cell_model.specs.declared.key.ItemKey.{ItemKey}
use Rattle.cell_entries.specs.declared.entry.LocalEntry.{LocalEntry}
use Rattle.cell_entries.specs.LocalEntries.{entries_from, entry_at}

module _ (schema : Schema) (key : ItemKey) (item : Attributes) (xs : List LocalIndex) (i : ℕ) (whole before : List LocalEntry) where
  pub entered_more :
      (x : LocalIndex) (now : List LocalEntry) → i < length xs → x ≡ get_or xs i x
      → before ++ entries_from schema (drop i xs) i key item ≡ whole → now ≡ before ++ entry_at key i (position_in schema x.keys key.key item)
      → now ++ entries_from schema (drop (i + 1) xs) (i + 1) key item ≡ whole
  entered_more x now lt is so by =
      ap (λ l. l ++ entries_from schema (drop (i + 1) xs) (i + 1) key item) by
      ∙ append_assoc before (entry_at key i (position_in schema x.keys key.key item)) (entries_from schema (drop (i + 1) xs) (i + 1) key item)
      ∙ sym (ap (λ l. before ++ entries_from schema l i key item) (drop_more xs i x lt ∙ ap (λ y. y ∷ drop (i + 1) xs) (sym is)))
      ∙ so

  pub entered_all : length xs ≤ i → before ++ entries_from schema (drop i xs) i key item ≡ whole → before ≡ whole
  entered_all ge so = sym (append-nil before) ∙ sym (ap (λ l. before ++ entries_from schema l i key item) (drop_all i xs ge)) ∙ so
