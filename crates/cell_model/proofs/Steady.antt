-- An update leaves the indexes that stay, and gives an index that comes a new number.
use Rattle.std.specs.Prelude.{bytes_eq, nat_eq, ◌⊎◌, if◌then◌else◌}
use Rattle.std.specs.List.{list_all, zip}
use Rattle.std.proofs.Common.{◌≡◌, ℕ, ◌+◌, ◌<◌, ◌≤◌, Bool, true, false, not, List, [], Option, None, Some, option_map, refl, sym, ap, subst, ◌∙◌, inl, inr, arith}
use Rattle.std.proofs.lemmas.Bool.{and_parts, cond_both, cond-true, cond-false, eqb-true, false_from_ne_true}
use Rattle.attr_value.specs.Tree.{Attributes}
use Rattle.table_schema.specs.declared.index.GlobalIndex.{GlobalIndex}
use Rattle.table_schema.specs.declared.schema.Schema.{Schema}
use Rattle.table_schema.specs.KeyName.{is_key_name}
use Rattle.item_keys.specs.Row.{is_kept}
use Rattle.row_keys.specs.Rows.{position_if}
use Rattle.table_request.specs.declared.tables.TableUpdate.{TableUpdate}
use Rattle.table_request.specs.declared.tables.IndexChange.{IndexChange}
use Rattle.table_request.specs.declared.tables.IndexChange.TheVariants.{Make, Remove}
use Rattle.table_model.specs.Catalog.{changed_indexes, updated_schema}
use Rattle.cell_model.specs.declared.key.ItemKey.{ItemKey}
use Rattle.cell_model.specs.declared.catalog.CatalogTable.{CatalogTable}
use Rattle.cell_model.specs.Catalogs.{ascend_from, numbered_indexes, index_numbers, index_at}
use Rattle.cell_model.specs.Commands.{is_typed, has_kinds, numbers_after, updated_table}
use Rattle.cell_model.specs.IndexRows.{row_at, row_under, row_in}
use Rattle.cell_model.proofs.Numbers.{Numbered, numbers_of, is_among, fronts_ascend, found_in_front, among_more, among_filtered, found_filtered, zipped_again, zipped_more, zipped_filtered, all_found, any_found, among_front}
use Rattle.cell_model.proofs.KeptTypes.{is_in_keys, kept_key, left_of_global}

-- ---- numbers that a change of indexes leaves

-- a number that is there after a change was there before, or is the next one
old_or_next : (change : Option IndexChange) (drawn g : ℕ) (es : Numbered) → is_among g (numbers_after change drawn es) ≡ true
    → (is_among g (numbers_of es) ≡ true) ⊎ (drawn < g)
old_or_next None drawn g es h = inl h
old_or_next (Some (Make index)) drawn g es h =
    elim (among_more g (numbers_of es) (drawn + 1) h) [ inl old ↦ inl old | inr new ↦ inr (omega arith) ]
old_or_next (Some (Remove name)) drawn g es h = inl (among_filtered (λ e. not (bytes_eq e.1.name name)) g es h)

-- an index that stays is found under its number
stays : (change : Option IndexChange) (drawn g : ℕ) (ns : List ℕ) (gs : List GlobalIndex) → ascend_from 0 ns ≡ true → g ≤ drawn
    → is_among g (numbers_of (zip (numbers_after change drawn (zip ns gs)) (changed_indexes change gs))) ≡ true
    → index_at g (zip (numbers_after change drawn (zip ns gs)) (changed_indexes change gs)) ≡ index_at g (zip ns gs)
stays None drawn g ns gs rises low there = ap (index_at g) (zipped_again ns gs)
stays (Some (Make x)) drawn g ns gs rises low there =
    let more = zipped_more ns gs (drawn + 1) x in
    let apart : nat_eq (drawn + 1) g ≡ false = false_from_ne_true (nat_eq (drawn + 1) g) (λ e. let same : drawn + 1 ≡ g = eqb-true (drawn + 1) g e in omega arith) in
    ap (index_at g) more.1 ∙ found_in_front g (zip ns gs) (drawn + 1) more.0 apart
stays (Some (Remove name)) drawn g ns gs rises low there =
    let passes = λ (x : GlobalIndex). not (bytes_eq x.name name) in
    let left = zipped_filtered passes ns gs in
    ap (index_at g) left
    ∙ found_filtered (λ e. passes e.1) 0 g (zip ns gs) (fronts_ascend 0 ns gs rises) (sym (ap (λ es. is_among g (numbers_of es)) left) ∙ there)

-- ---- the rows of an index that stays

globals_typed : (schema : Schema) → is_typed schema ≡ true → list_all (λ index. has_kinds schema index.keys) schema.globals ≡ true
globals_typed schema typed = (and_parts (list_all (λ index. has_kinds schema index.keys) schema.locals) _ typed).1

module _ (t : CatalogTable) (update : TableUpdate) where
  -- an item's row under an index that stays is as it was
  same_under : (key : ItemKey) (g : ℕ) (x : GlobalIndex) (item : Attributes) → has_kinds t.schema x.keys ≡ true
      → ((name : List ℕ) → is_key_name x.keys name ≡ true → is_in_keys name (changed_indexes update.index t.schema.globals) ≡ true)
      → row_under key g (updated_schema t.schema update) x item ≡ row_under key g t.schema x item
  unfolding is_kept
  same_under key g x item known used =
      ap (λ found. option_map (row_at key g t.schema x item) (position_if key.key found)) (kept_key t.schema update x.keys item known (λ name has. left_of_global t.schema update name (used name has)))

  same_row : (drawn : ℕ) (key : ItemKey) (g : ℕ) (item : Attributes) → is_typed t.schema ≡ true → ascend_from 0 t.indexes ≡ true → g ≤ drawn
      → is_among g (numbers_of (zip (numbers_after update.index drawn (zip t.indexes t.schema.globals)) (changed_indexes update.index t.schema.globals))) ≡ true
      → row_in key g (updated_schema t.schema update) (index_at g (zip (numbers_after update.index drawn (zip t.indexes t.schema.globals)) (changed_indexes update.index t.schema.globals))) item
      ≡ row_in key g t.schema (index_at g (zip t.indexes t.schema.globals)) item
  same_row drawn key g item typed rises low there =
      go (index_at g (zip t.indexes t.schema.globals)) refl
    where
      now : Numbered
      now = zip (numbers_after update.index drawn (zip t.indexes t.schema.globals)) (changed_indexes update.index t.schema.globals)

      found : index_at g now ≡ index_at g (zip t.indexes t.schema.globals)
      found = stays update.index drawn g t.indexes t.schema.globals rises low there

      go : (o : Option GlobalIndex) → index_at g (zip t.indexes t.schema.globals) ≡ o → row_in key g (updated_schema t.schema update) (index_at g now) item ≡ row_in key g t.schema o item
      go None e = ap (λ z. row_in key g (updated_schema t.schema update) z item) (found ∙ e)
      go (Some x) e =
          ap (λ z. row_in key g (updated_schema t.schema update) z item) (found ∙ e)
          ∙ same_under key g x item (all_found (λ index. has_kinds t.schema index.keys) g t.indexes t.schema.globals x (globals_typed t.schema typed) e)
          (λ name has. any_found (λ index. is_key_name index.keys name) g (numbers_after update.index drawn (zip t.indexes t.schema.globals)) (changed_indexes update.index t.schema.globals) x has (found ∙ e))

-- ---- of a table

-- the indexes of a table whose numbers ascend
listed : (ns : List ℕ) (gs : List GlobalIndex) → ascend_from 0 ns ≡ true → (if ascend_from 0 ns then zip ns gs else []) ≡ zip ns gs
listed ns gs rises = cond-true (ascend_from 0 ns) (zip ns gs) [] rises

unlisted : (ns : List ℕ) (gs : List GlobalIndex) → ascend_from 0 ns ≡ false → (if ascend_from 0 ns then zip ns gs else []) ≡ []
unlisted ns gs falls = cond-false (ascend_from 0 ns) (zip ns gs) [] falls

-- a number that a table has ascends with the others
pub rises_where : (g : ℕ) (ns : List ℕ) (gs : List GlobalIndex) → is_among g (numbers_of (if ascend_from 0 ns then zip ns gs else [])) ≡ true → ascend_from 0 ns ≡ true
rises_where g ns gs = go (ascend_from 0 ns)
  where
    go : (b : Bool) → is_among g (numbers_of (if b then zip ns gs else [])) ≡ true → b ≡ true
    go true h = refl
    go false h = absurd (cc)

-- an index that a table has after an update was there before, or has a number that was not drawn
pub new_number : (update : TableUpdate) (drawn : ℕ) (t : CatalogTable) (g : ℕ) → is_among g (index_numbers (updated_table update drawn t)) ≡ true
    → (is_among g (index_numbers t) ≡ true) ⊎ (drawn < g)
new_number update drawn t g =
    cond_both (is_typed t.schema) _ t (λ z. is_among g (index_numbers z) ≡ true → (is_among g (index_numbers t) ≡ true) ⊎ (drawn < g))
    (λ e h. old_or_next update.index drawn g (numbered_indexes t) (front h)) (λ e h. inl h)
  where
    now : List ℕ
    now = numbers_after update.index drawn (numbered_indexes t)

    globals : List GlobalIndex
    globals = changed_indexes update.index t.schema.globals

    front : is_among g (numbers_of (if ascend_from 0 now then zip now globals else [])) ≡ true → is_among g now ≡ true
    front h = among_front g now globals (ap (λ es. is_among g (numbers_of es)) (sym (listed now globals (rises_where g now globals h))) ∙ h)

-- and one that stays has the rows that it had
module _ (update : TableUpdate) (drawn : ℕ) (t : CatalogTable) (key : ItemKey) (g : ℕ) (item : Attributes) where
  abbrev numbers : Numbered → List ℕ
  numbers es = numbers_after update.index drawn es

  abbrev globals : List GlobalIndex
  globals = changed_indexes update.index t.schema.globals

  -- the indexes after the update, where these were there
  abbrev entries : Numbered → Numbered
  entries es = if ascend_from 0 (numbers es) then zip (numbers es) globals else []

  abbrev Alike : Numbered → Type 0
  Alike es =
      is_among g (numbers_of (entries es)) ≡ true
      → row_in key g (updated_schema t.schema update) (index_at g (entries es)) item ≡ row_in key g t.schema (index_at g es) item

  as_zipped : is_typed t.schema ≡ true → ascend_from 0 t.indexes ≡ true → g ≤ drawn → Alike (zip t.indexes t.schema.globals)
  as_zipped typed rises low h =
      let es = zip t.indexes t.schema.globals in
      let whole = listed (numbers es) globals (rises_where g (numbers es) globals h) in
      ap (λ z. row_in key g (updated_schema t.schema update) (index_at g z) item) whole
      ∙ same_row t update drawn key g item typed rises low (ap (λ z. is_among g (numbers_of z)) (sym whole) ∙ h)

  pub steady_row : g ≤ drawn → is_among g (index_numbers t) ≡ true → is_among g (index_numbers (updated_table update drawn t)) ≡ true
      → row_in key g (updated_table update drawn t).schema (index_at g (numbered_indexes (updated_table update drawn t))) item
      ≡ row_in key g t.schema (index_at g (numbered_indexes t)) item
  steady_row low old =
      let rises = rises_where g t.indexes t.schema.globals old in
      cond_both (is_typed t.schema) _ t
      (λ z. is_among g (index_numbers z) ≡ true → row_in key g z.schema (index_at g (numbered_indexes z)) item ≡ row_in key g t.schema (index_at g (numbered_indexes t)) item)
      (λ typed. subst Alike (sym (listed t.indexes t.schema.globals rises)) (as_zipped typed rises low)) (λ e h. refl)
