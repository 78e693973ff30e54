-- The entries of items in local indexes name their items, and a command leaves those of tables that it doesn't concern.
use Rattle.std.specs.Prelude.{◌≡◌, ℕ, ◌+◌, Bool, true, false, ◌||◌, ◌⊎◌, List, [], ◌∷◌, ◌++◌, Option, None, Some, refl}
use Rattle.std.specs.List.{list_all, list_any}
use Rattle.std.specs.BTreeMap.{is_at}
use Rattle.std.specs.Ordering.{nat_cmp, ordering_then, is_eq}
use Rattle.std.specs.declared.cmp.Ordering.{Ordering}
use Rattle.std.specs.declared.cmp.Ordering.TheVariants as order
use Rattle.std.proofs.Common.{ap, option_and_then, subst, inl, inr, ◌∙◌}
use Rattle.std.proofs.lemmas.Bool.{and_parts, cond_both, or_left, or_right}
use Rattle.std.proofs.lemmas.Map.Lookups.{exact_unsigned}
use Rattle.attr_value.specs.Tree.{Attributes}
use Rattle.table_schema.specs.declared.index.LocalIndex.{LocalIndex}
use Rattle.table_schema.specs.declared.schema.Schema.{Schema}
use Rattle.table_schema.specs.KeyName.{is_key_name}
use Rattle.item_keys.specs.declared.key.Key.{Key}
use Rattle.item_keys.specs.declared.fault.KeyFault.{KeyFault}
use Rattle.item_keys.specs.ItemKey.{key_in}
use Rattle.row_keys.specs.Keys.{position_order}
use Rattle.row_keys.specs.Rows.{position_if, position_in}
use Rattle.table_rows.proofs.Exact.{position_exact}
use Rattle.std.specs.Prelude.{Result, Ok, Err}
use Rattle.table_request.specs.declared.tables.TableUpdate.{TableUpdate}
use Rattle.table_model.specs.Catalog.{updated_schema}
use Rattle.cell_model.specs.declared.key.ItemKey.{ItemKey}
use Rattle.cell_model.specs.declared.key.CellKey.{CellKey}
use Rattle.cell_model.specs.declared.key.CellKey.TheVariants.{Item, Row}
use Rattle.cell_model.specs.declared.catalog.Catalog.{Catalog}
use Rattle.cell_model.specs.declared.catalog.CatalogTable.{CatalogTable}
use Rattle.cell_model.specs.declared.command.CatalogCommand.{CatalogCommand}
use Rattle.cell_model.specs.declared.command.CatalogCommand.TheVariants.{Change}
use Rattle.cell_model.specs.Catalogs.{has_table, last_drawn, numbered}
use Rattle.cell_model.specs.Commands.{catalog_after, expiring, expiring_table, has_kinds, is_number, is_typed, kept, subject, updated_table, waits_for}
use Rattle.cell_model.specs.Keys.{same_key, table_of}
use Rattle.cell_model.proofs.Exact.{same_itself}
use Rattle.cell_model.proofs.KeptTypes.{is_left, kept_key, left_of_local}
use Rattle.cell_model.proofs.Lookups.{kept_found}
use Rattle.cell_model.proofs.Lawful.{spared as same_there}
use Rattle.cell_model.proofs.TimeToLive.{same_key as same_attributes_key}
use Rattle.cell_entries.specs.declared.entry.LocalEntry.{LocalEntry}
use Rattle.cell_entries.specs.LocalEntries.{entries_from, entries_in, entries_of, entry_at, entry_order, item_of_entry}

-- ---- entries that compare alike name one item

first_ties : (o p : Ordering) → ordering_then o p ≡ order.Equal → o ≡ order.Equal
first_ties order.Less p e = absurd (cc)
first_ties order.Equal p e = refl
first_ties order.Greater p e = absurd (cc)

rest_ties : (o p : Ordering) → ordering_then o p ≡ order.Equal → p ≡ order.Equal
rest_ties order.Less p e = absurd (cc)
rest_ties order.Equal p e = e
rest_ties order.Greater p e = absurd (cc)

equal_from : (o : Ordering) → is_eq o ≡ true → o ≡ order.Equal
equal_from order.Less e = absurd (cc)
equal_from order.Equal e = refl
equal_from order.Greater e = absurd (cc)

one_item : (a b : LocalEntry) → is_at (entry_order a) b ≡ true → item_of_entry a ≡ item_of_entry b
one_item a b at =
    let e = equal_from (entry_order a b) at in
    let rest = ordering_then (nat_cmp a.index b.index) (position_order a.at b.at) in
    let table = exact_unsigned a.table b.table (first_ties (nat_cmp a.table b.table) rest e) in
    let place = position_exact a.at b.at (rest_ties (nat_cmp a.index b.index) (position_order a.at b.at) (rest_ties (nat_cmp a.table b.table) rest e)) in
    λ i. Item (record { table = table i; key = (place i).item })

-- ---- what is among the entries of an item

either : (a b : Bool) → (a || b) ≡ true → (a ≡ true) ⊎ (b ≡ true)
either true b e = inl refl
either false b e = inr e

joined : (es fs : List LocalEntry) (q : LocalEntry) → list_any (λ e. is_at (entry_order e) q) (es ++ fs) ≡ true
    → (list_any (λ e. is_at (entry_order e) q) es ≡ true) ⊎ (list_any (λ e. is_at (entry_order e) q) fs ≡ true)
joined [] fs q h = inr h
joined (e ∷ es) fs q h =
    elim (either (is_at (entry_order e) q) (list_any (λ e. is_at (entry_order e) q) (es ++ fs)) h) [
      | inl here ↦ inl (λ i. here i || list_any (λ e. is_at (entry_order e) q) es)
      | inr further ↦ elim (joined es fs q further) [
        | inl there ↦ inl (either_true (is_at (entry_order e) q) (list_any (λ e. is_at (entry_order e) q) es) there)
        | inr there ↦ inr there
      ]
    ]
  where
    either_true : (a b : Bool) → b ≡ true → (a || b) ≡ true
    either_true true b e = refl
    either_true false b e = e

-- a position of an item has its key
positioned : (key : ItemKey) (found : Result Key KeyFault) (place : ℕ) (q : LocalEntry)
    → list_any (λ e. is_at (entry_order e) q) (entry_at key place (position_if key.key found)) ≡ true → Item key ≡ item_of_entry q
positioned key (Err fault) place q h = absurd (cc)
positioned key (Ok k) place q h =
    elim (either _ false h) [
      | inl at ↦ one_item (record { table = key.table; index = place; at = record { read = _; item = key.key } }) q at
      | inr none ↦ absurd (cc)
    ]

named_from : (schema : Schema) (locals : List LocalIndex) (place : ℕ) (key : ItemKey) (item : Attributes) (q : LocalEntry)
    → list_any (λ e. is_at (entry_order e) q) (entries_from schema locals place key item) ≡ true → Item key ≡ item_of_entry q
named_from schema [] place key item q h = absurd (cc)
named_from schema (index ∷ rest) place key item q h =
    elim (joined (entry_at key place (position_in schema index.keys key.key item)) (entries_from schema rest (place + 1) key item) q h) [
      | inl here ↦ positioned key (key_in schema index.keys item) place q here
      | inr there ↦ named_from schema rest (place + 1) key item q there
    ]

named_in : (table : Option CatalogTable) (key : ItemKey) (item : Attributes) (q : LocalEntry)
    → list_any (λ e. is_at (entry_order e) q) (entries_in table key item) ≡ true → Item key ≡ item_of_entry q
named_in None key item q h = absurd (cc)
named_in (Some table) key item q h = named_from table.schema table.schema.locals 0 key item q h

pub named : (catalog : Catalog) (key : CellKey) (item : Attributes) (q : LocalEntry)
    → list_any (λ e. is_at (entry_order e) q) (entries_of catalog key item) ≡ true → same_key key (item_of_entry q) ≡ true
named catalog (Item key) item q h =
    subst (λ k. same_key (Item key) k ≡ true) (named_in (numbered catalog.tables key.table) key item q h) (same_itself (Item key))
named catalog (Row key) item q h = absurd (cc)

-- a time to live leaves them
module _ (schema : Schema) (attribute : List ℕ) (enabled : Bool) (key : ItemKey) (item : Attributes) where
  expiring_from : (locals : List LocalIndex) (place : ℕ)
      → entries_from (expiring schema attribute enabled) locals place key item ≡ entries_from schema locals place key item
  expiring_from [] place = refl
  expiring_from (index ∷ rest) place =
      λ i. entry_at key place (position_if key.key (same_attributes_key schema attribute enabled index.keys item i)) ++ expiring_from rest (place + 1) i

expiring_entries : (key : ItemKey) (item : Attributes) (attribute : List ℕ) (enabled : Bool) (table : CatalogTable)
    → entries_in (Some (expiring_table attribute enabled table)) key item ≡ entries_in (Some table) key item
expiring_entries key item attribute enabled table = expiring_from table.schema attribute enabled key item table.schema.locals 0

pub spared : (d : CatalogCommand) (moment : ℕ) (catalog : Catalog) (key : CellKey) (item : Attributes) → is_number (waits_for d catalog) (table_of key) ≡ false
    → has_table catalog (table_of key) ≡ true → entries_of (catalog_after d moment catalog) key item ≡ entries_of catalog key item
spared d moment catalog (Item key) item away there = same_there (λ t. entries_in t key item) (expiring_entries key item) d moment catalog key.table away there
spared d moment catalog (Row key) item away there = refl

-- ---- an update of a table leaves its items' entries

module _ (schema : Schema) (update : TableUpdate) (key : ItemKey) (item : Attributes) where
  same_from : (locals : List LocalIndex) (place : ℕ) → list_all (λ index. has_kinds schema index.keys) locals ≡ true
      → ((name : List ℕ) → list_any (λ index. is_key_name index.keys name) locals ≡ true → is_left schema update name ≡ true)
      → entries_from (updated_schema schema update) locals place key item ≡ entries_from schema locals place key item
  same_from [] place known left = refl
  same_from (index ∷ rest) place known left =
      let typed = and_parts (has_kinds schema index.keys) (list_all (λ other. has_kinds schema other.keys) rest) known in
      let others : List ℕ → Bool = λ name. list_any (λ other. is_key_name other.keys name) rest in
      let here = kept_key schema update index.keys item typed.0 (λ name has. left name (or_left (is_key_name index.keys name) (others name) has)) in
      let more = same_from rest (place + 1) typed.1 (λ name has. left name (or_right (is_key_name index.keys name) (others name) has)) in
      λ i. entry_at key place (position_if key.key (here i)) ++ more i

updated_entries : (update : TableUpdate) (drawn : ℕ) (table : CatalogTable) (key : ItemKey) (item : Attributes)
    → entries_in (Some (updated_table update drawn table)) key item ≡ entries_in (Some table) key item
updated_entries update drawn table key item =
    cond_both (is_typed table.schema) _ table (λ t. entries_in (Some t) key item ≡ entries_in (Some table) key item)
    (λ typed. same_from table.schema update key item table.schema.locals 0
    (and_parts (list_all (λ index. has_kinds table.schema index.keys) table.schema.locals) _ typed).0 (left_of_local table.schema update))
    (λ untyped. refl)

pub updates_keep : (name : List ℕ) (update : TableUpdate) (moment : ℕ) (catalog : Catalog) (key : CellKey) (item : Attributes)
    → entries_of (catalog_after (Change name update) moment catalog) key item ≡ entries_of catalog key item
updates_keep name update moment catalog (Row key) item = refl
updates_keep name update moment catalog (Item key) item =
    ap (λ t. entries_in t key item) (kept_found (Change name update) on (last_drawn catalog) key.table catalog.tables)
    ∙ by (numbered catalog.tables key.table)
  where
    on : Option ℕ
    on = subject (Change name update) catalog

    by : (o : Option CatalogTable) → entries_in (option_and_then (kept (Change name update) on (last_drawn catalog)) o) key item ≡ entries_in o key item
    by None = refl
    by (Some table) =
        cond_both (is_number on table.number) (Some (updated_table update (last_drawn catalog) table)) (Some table)
        (λ o. entries_in o key item ≡ entries_in (Some table) key item)
        (λ concerned. updated_entries update (last_drawn catalog) table key item) (λ other. refl)
