-- The rows of what is read stand at the keys of their items.
use Rattle.std.specs.Prelude.{◌||◌, map, if◌then◌else◌, Result, Ok, Err}
use Rattle.std.specs.List.{AllByRecursion}
use Rattle.std.specs.Result.{result_map_both}
use Rattle.std.specs.BTreeMap.{insert_entry}
use Rattle.std.specs.Ordering.{match_ordering}
use Rattle.std.specs.declared.cmp.Ordering.{Ordering}
use Rattle.std.specs.declared.cmp.Ordering.TheVariants.{Less, Equal, Greater}
use Rattle.std.proofs.Common.{◌≡◌, ℕ, Bool, true, false, List, [], ◌∷◌, Option, None, Some, refl, ap, sym, ◌∙◌, subst, bytes_eq}
use Rattle.std.proofs.lemmas.Bool.{cond-true, cond-false}
use Rattle.std.proofs.lemmas.Slice.Eq.{bytes_eq-Decides}
use Rattle.attr_value.specs.Tree.{Attributes, no_attributes, attribute}
use Rattle.attr_value.specs.Paths.{value_at}
use Rattle.item_keys.specs.ItemKey.{key_in, part_of, sort_in, both, key_from}
use Rattle.item_keys.specs.Row.{only, is_kept, is_included}
use Rattle.item_keys.specs.declared.fault.KeyFault.{KeyFault}
use Rattle.item_keys.specs.declared.key.Key.{Key}
use Rattle.table_schema.specs.KeyName.{is_key_name, is_sort_name}
use Rattle.table_schema.specs.Kind.{kind_of}
use Rattle.table_schema.specs.declared.keys.KeyNames.{KeyNames}
use Rattle.table_schema.specs.declared.index.GlobalIndex.{GlobalIndex}
use Rattle.table_schema.specs.declared.schema.Schema.{Schema}
use Rattle.row_keys.specs.declared.position.Position.{Position}
use Rattle.row_keys.specs.declared.row_key.RowKey.{RowKey}
use Rattle.row_keys.specs.Keys.{row_key, position_order}
use Rattle.row_keys.specs.Rows.{Rows, Entries, position, position_if, entered, index_of}
use Rattle.table_rows.proofs.Exact.{position_exact}
use Rattle.table_model.specs.Database.{Table}
use Rattle.table_model.specs.Pages.{Source, whole_table, local_index, global_index, source_keys, source_entries}
use Rattle.page_ranges.specs.AtKeys.{key_if, IsAtKey, AreAtKeys}

-- ---- what holds of each entry

pub all_made : {X Y : Type 0} (P : Y → Type 0) (make : X → Y) (xs : List X) → AllByRecursion (λ x. P (make x)) xs → AllByRecursion P (map make xs)
all_made P make [] all = tt
all_made P make (x ∷ xs) all = (all.0, all_made P make xs all.1)

pub all_to : {X : Type 0} (P Q : X → Type 0) → ((x : X) → P x → Q x) → (xs : List X) → AllByRecursion P xs → AllByRecursion Q xs
all_to P Q f [] all = tt
all_to P Q f (x ∷ xs) all = (f x all.0, all_to P Q f xs all.1)

all_inserted : (P : Position × Attributes → Type 0) (at : Position) (item : Attributes) → P (at, item) → (es : Entries) → AllByRecursion P es
    → AllByRecursion P (insert_entry position_order es at item)
all_inserted P at item here [] all = (here, tt)
all_inserted P at item here (e ∷ es) all = go (position_order at e.0) refl (all_inserted P at item here es all.1)
  where
    go : (o : Ordering) → position_order at e.0 ≡ o → AllByRecursion P (insert_entry position_order es at item)
        → AllByRecursion P (match_ordering o ((at, item) ∷ e ∷ es) ((e.0, item) ∷ es) (e ∷ insert_entry position_order es at item))
    go Less is rest = (here, all)
    go Equal is rest = (subst (λ (place : Position). P (place, item)) (position_exact at e.0 is) here, all.1)
    go Greater is rest = (all.0, rest)

-- ---- indexes

entered_at_key : (schema : Schema) (keys : KeyNames) (at : RowKey) (item : Attributes) (key : Result Key KeyFault) → key_in schema keys item ≡ key → (es : Entries)
    → AllByRecursion (λ e. IsAtKey schema keys e.0.read e.1) es → AllByRecursion (λ e. IsAtKey schema keys e.0.read e.1) (entered (position_if at key) item es)
entered_at_key schema keys at item (Err fault) is es all = all
entered_at_key schema keys at item (Ok key) is es all =
    all_inserted (λ e. IsAtKey schema keys e.0.read e.1) (position (row_key key) at) item (ap key_if is) es all

-- each row of an index stands at its item's key in the index
pub index_at_keys : (schema : Schema) (keys : KeyNames) (rows : Rows) → AllByRecursion (λ e. IsAtKey schema keys e.0.read e.1) (index_of schema keys rows)
index_at_keys schema keys [] = tt
index_at_keys schema keys (row ∷ rows) =
    entered_at_key schema keys row.0 row.1 (key_in schema keys row.1) refl (index_of schema keys rows) (index_at_keys schema keys rows)

-- ---- what a global index keeps

same_name : (a b : List ℕ) → bytes_eq a b ≡ true → a ≡ b
same_name a b is = (bytes_eq-Decides a b).0 is

-- an attribute that is kept has its value
kept_value : (keeps : List ℕ → Bool) (name : List ℕ) → keeps name ≡ true → (item : Attributes) → value_at name (only keeps item) ≡ value_at name item
kept_value keeps name is no_attributes = refl
kept_value keeps name is (attribute other value rest) = go (bytes_eq name other) (keeps other) refl refl (kept_value keeps name is rest)
  where
    go : (same kept : Bool) → bytes_eq name other ≡ same → keeps other ≡ kept → value_at name (only keeps rest) ≡ value_at name rest
        → value_at name (if kept then attribute other value (only keeps rest) else only keeps rest) ≡ (if same then Some value else value_at name rest)
    go true true e k h = cond-true (bytes_eq name other) (Some value) (value_at name (only keeps rest)) e
    go false true e k h = cond-false (bytes_eq name other) (Some value) (value_at name (only keeps rest)) e ∙ h
    go false false e k h = h
    go true false e k h = let clash : true ≡ false = sym is ∙ ap keeps (same_name name other e) ∙ k in absurd (cc)

key_of_kept : (keeps : List ℕ → Bool) (schema : Schema) (keys : KeyNames) (item : Attributes) → keeps keys.partition ≡ true
    → ((name : List ℕ) → keys.sort ≡ Some name → keeps name ≡ true) → key_in schema keys (only keeps item) ≡ key_in schema keys item
unfolding key_in
key_of_kept keeps schema keys item partition sort =
    let first = ap (part_of 2048 (kind_of keys.partition schema.definitions)) (kept_value keeps keys.partition partition item) in
    let second = go keys.sort sort in
    λ i. both key_from (first i) (second i)
  where
    go : (name : Option (List ℕ)) → ((n : List ℕ) → name ≡ Some n → keeps n ≡ true) → sort_in schema name (only keeps item) ≡ sort_in schema name item
    go None kept = refl
    go (Some name) kept =
        ap (λ part. result_map_both Some (λ fault. fault) part) (ap (part_of 1024 (kind_of name schema.definitions)) (kept_value keeps name (kept name refl) item))

itself : (name : List ℕ) → bytes_eq name name ≡ true
itself name = (bytes_eq-Decides name name).1 refl

or_true : (a : Bool) → (a || true) ≡ true
or_true true = refl
or_true false = refl

true_or : (a b : Bool) → a ≡ true → (a || b) ≡ true
true_or true b is = refl
true_or false b is = absurd (cc)

keeps_key : (schema : Schema) (index : GlobalIndex) (name : List ℕ) → is_key_name index.keys name ≡ true → is_kept schema index name ≡ true
unfolding is_kept
keeps_key schema index name is =
    true_or (is_key_name schema.keys name || is_key_name index.keys name) (is_included index.projection name)
    (ap (λ b. is_key_name schema.keys name || b) is ∙ or_true (is_key_name schema.keys name))

-- what a global index keeps of an item has the item's key in it
pub key_kept : (schema : Schema) (index : GlobalIndex) (item : Attributes) → key_in schema index.keys (only (is_kept schema index) item) ≡ key_in schema index.keys item
key_kept schema index item =
    key_of_kept (is_kept schema index) schema index.keys item
    (keeps_key schema index index.keys.partition (true_or (bytes_eq index.keys.partition index.keys.partition) _ (itself index.keys.partition)))
    (λ name is. keeps_key schema index name
    (ap (λ sort. bytes_eq index.keys.partition name || is_sort_name sort name) is
    ∙ ap (λ b. bytes_eq index.keys.partition name || b) (itself name) ∙ or_true (bytes_eq index.keys.partition name)))

-- ---- what is read

module _ (schema : Schema) (rows : Rows) (number : ℕ) where
  -- the table of these rows
  abbrev pub table_of : Table
  table_of = record { number = number; schema = schema; rows = rows }

  -- each row of what is read stands at its key
  pub entries_at_keys : (source : Source) → AreAtKeys schema rows
      → AllByRecursion (λ e. IsAtKey schema (source_keys schema source) e.0.read e.1) (source_entries table_of source)
  entries_at_keys whole_table all =
      all_made (λ e. IsAtKey schema schema.keys e.0.read e.1) (λ (row : RowKey × Attributes). (position row.0 row.0, row.1)) rows all
  entries_at_keys (local_index index) all = index_at_keys schema index.keys rows
  entries_at_keys (global_index index) all =
      all_made (λ e. IsAtKey schema index.keys e.0.read e.1) (λ (e : Position × Attributes). (e.0, only (is_kept schema index) e.1))
      (index_of schema index.keys rows)
      (all_to (λ e. IsAtKey schema index.keys e.0.read e.1) (λ e. IsAtKey schema index.keys e.0.read (only (is_kept schema index) e.1))
      (λ e at. ap key_if (key_kept schema index e.1) ∙ at) (index_of schema index.keys rows) (index_at_keys schema index.keys rows))
