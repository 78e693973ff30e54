-- Rows picked out of a list, one by one.
use Rattle.std.proofs.Common.{◌≡◌, ℕ, suc, ◌+◌, ◌<◌, List, [], ◌∷◌, ◌++◌, map, take, drop, length, get_or, filter_map, Option, None, Some, option_map, option_to_list, refl, sym, ap, ◌∙◌, take-suc, drop-cons, arith}
use Rattle.std.specs.List.{cons_option}
use Rattle.std.proofs.lemmas.List.Elements.{filter_map-append}
use Rattle.attr_value.specs.Tree.{Attributes}
use Rattle.table_schema.specs.declared.keys.KeyNames.{KeyNames}
use Rattle.table_schema.specs.declared.schema.Schema.{Schema}
use Rattle.row_keys.specs.declared.row_key.RowKey.{RowKey}
use Rattle.row_keys.specs.Rows.{Entries, Rows, index_of}
use Rattle.cell_model.specs.declared.key.CellKey.{CellKey}
use Rattle.cell_model.specs.Pages.{CellRows, item_in, items_of}
use Rattle.cell_pages.specs.Entered.{entered_if}

-- what one more element adds
one_more : {X Y : Type 0} (h : X → Option Y) (x : X) → filter_map h (x ∷ []) ≡ option_to_list (h x)
one_more h x = go (h x)
  where
    go : {Y : Type 0} (o : Option Y) → cons_option o [] ≡ option_to_list o
    go None = refl
    go (Some y) = refl

-- of a list that is gone over, what was picked with what the next element adds
pub next_picked : {X Y : Type 0} (h : X → Option Y) (xs : List X) (i : ℕ) (x : X) (old new : List Y) → i < length xs → x ≡ get_or xs i x
    → old ≡ filter_map h (take i xs) → new ≡ old ++ option_to_list (h x) → new ≡ filter_map h (take (i + 1) xs)
next_picked h xs i x old new within is before after =
    let e : i + 1 ≡ suc i = omega arith in
    after
    ∙ ap (λ l. l ++ option_to_list (h x)) before
    ∙ sym
    (ap (λ n. filter_map h (take n xs)) e
    ∙ ap (filter_map h) (take-suc xs i x within)
    ∙ filter_map-append h (take i xs) (get_or xs i x ∷ [])
    ∙ ap (λ y. filter_map h (take i xs) ++ filter_map h (y ∷ [])) (sym is)
    ∙ ap (λ l. filter_map h (take i xs) ++ l) (one_more h x))

-- a list that is picked and mapped is picked as mapped
module _ {X Y Z : Type 0} (g : Y → Z) (h : X → Option Y) where
  pub picked_as : (xs : List X) → map g (filter_map h xs) ≡ filter_map (λ x. option_map g (h x)) xs
  picked_as [] = refl
  picked_as (x ∷ xs) = go (h x) (picked_as xs)
    where
      go : (o : Option Y) → map g (filter_map h xs) ≡ filter_map (λ x. option_map g (h x)) xs
          → map g (cons_option o (filter_map h xs)) ≡ cons_option (option_map g o) (filter_map (λ x. option_map g (h x)) xs)
      go None rest = rest
      go (Some y) rest = ap (λ l. g y ∷ l) rest

-- an index of the items behind a place, with the item there
pub one_entered : (schema : Schema) (keys : KeyNames) (table : ℕ) (kept : CellRows) (i : ℕ) (x : CellKey × Attributes) (old new : Entries) → i < length kept → x ≡ get_or kept i x
    → old ≡ index_of schema keys (items_of table (drop (i + 1) kept)) → new ≡ entered_if schema keys (item_in table x) old
    → new ≡ index_of schema keys (items_of table (drop i kept))
one_entered schema keys table kept i x old new within is before after =
    let e : i + 1 ≡ suc i = omega arith in
    after
    ∙ ap (entered_if schema keys (item_in table x)) (before ∙ ap (λ n. index_of schema keys (items_of table (drop n kept))) e)
    ∙ go (item_in table x) (items_of table (drop (suc i) kept))
    ∙ sym
    (ap (λ l. index_of schema keys (items_of table l)) (drop-cons kept i x within)
    ∙ ap (λ y. index_of schema keys (cons_option (item_in table y) (items_of table (drop (suc i) kept)))) (sym is))
  where
    go : (o : Option (RowKey × Attributes)) (rows : Rows) → entered_if schema keys o (index_of schema keys rows) ≡ index_of schema keys (cons_option o rows)
    go None rows = refl
    go (Some row) rows = refl
