-- What a table's time to live is nothing to: keys, what actions make of items, and rows of indexes.
use Rattle.std.proofs.Common.{◌≡◌, ℕ, Bool, if◌then◌else◌, List, ◌||◌, Option, None, Some, option_map, Result, Ok, Err, unwrap_or, refl, ap}
use Rattle.std.specs.List.{list_any}
use Rattle.attr_value.specs.Tree.{Attributes}
use Rattle.attr_value.specs.declared.value.Value.{Value}
use Rattle.update_eval.specs.declared.fault.EvalFault.{EvalFault}
use Rattle.update_eval.specs.declared.fault.EvalFault.TheVariants.{ItemTooLarge, IndexKey}
use Rattle.table_schema.specs.declared.index.GlobalIndex.{GlobalIndex}
use Rattle.table_schema.specs.declared.keys.KeyNames.{KeyNames}
use Rattle.table_schema.specs.declared.schema.Schema.{Schema}
use Rattle.item_keys.specs.ItemKey.{both, key_from, key_in, part_in, sort_in}
use Rattle.item_keys.specs.Row.{is_kept, only}
use Rattle.item_keys.specs.Unfit.{is_bad, is_bad_sort}
use Rattle.row_keys.specs.Rows.{index_keys, is_refused, position_if}
use Rattle.table_model.specs.Outcome.{becomes, is_faulty, fit, fit_if, is_too_large, where_met}
use Rattle.cell_model.specs.declared.key.CellKey.TheVariants.{Row}
use Rattle.cell_model.specs.declared.key.ItemKey.{ItemKey}
use Rattle.cell_model.specs.declared.catalog.CatalogTable.{CatalogTable}
use Rattle.cell_model.specs.Actions.{ItemAction, ItemChange, Put, Update, Delete, Check, change_outcome, is_met, outcome_in, outcome_of, updated_by}
use Rattle.cell_model.specs.Catalogs.{index_at, numbered_indexes}
use Rattle.cell_model.specs.Commands.{expiring, expiring_table}
use Rattle.cell_model.specs.IndexRows.{row_if, row_in}

module _ (schema : Schema) (attribute : List ℕ) (enabled : Bool) where
  abbrev later : Schema
  later = expiring schema attribute enabled

  same_sort : (sort : Option (List ℕ)) (item : Attributes) → sort_in later sort item ≡ sort_in schema sort item
  same_sort None item = refl
  same_sort (Some name) item = refl

  -- the key that an item has
  pub same_key : (keys : KeyNames) (item : Attributes) → key_in later keys item ≡ key_in schema keys item
  unfolding key_in
  same_key keys item = ap (λ sort. both key_from (part_in schema 2048 keys.partition item) sort) (same_sort keys.sort item)

  -- what its row in an index keeps
  same_kept : (index : GlobalIndex) (item : Attributes) → only (is_kept later index) item ≡ only (is_kept schema index) item
  unfolding is_kept
  same_kept index item = refl

  same_bad_sort : (sort : Option (List ℕ)) (item : Attributes) → is_bad_sort later sort item ≡ is_bad_sort schema sort item
  same_bad_sort None item = refl
  same_bad_sort (Some name) item = refl

  -- whether an index refuses it
  same_refusal : (item : Attributes) → is_refused later item ≡ is_refused schema item
  same_refusal item =
      λ j. list_any (λ (keys : KeyNames). is_bad (part_in schema 2048 keys.partition item) || same_bad_sort keys.sort item j) (index_keys schema)

  same_fit : (item : Attributes) → fit later item ≡ fit schema item
  same_fit item = λ j. if is_too_large item then is_faulty ItemTooLarge else (if same_refusal item j then is_faulty IndexKey else becomes (Some item))

  same_fit_if : (made : Result Attributes EvalFault) → fit_if later made ≡ fit_if schema made
  same_fit_if (Ok item) = same_fit item
  same_fit_if (Err fault) = refl

  -- what an action makes of an item
  same_change : (values : List Value) (old : Option Attributes) (change : ItemChange) → change_outcome later values old change ≡ change_outcome schema values old change
  same_change values old (Put item) = same_fit item
  same_change values old (Update key update) = same_fit_if (updated_by update values (unwrap_or old key))
  same_change values old (Delete key) = refl
  same_change values old (Check key) = refl

  -- a row of an index
  pub same_row : (key : ItemKey) (g : ℕ) (o : Option GlobalIndex) (item : Attributes) → row_in key g later o item ≡ row_in key g schema o item
  same_row key g None item = refl
  same_row key g (Some index) item =
      λ j. option_map (λ at. record { key = Row (record { table = key.table; index = g; at = at }); content = same_kept index item j })
      (position_if key.key (same_key index.keys item j))

module _ (attribute : List ℕ) (enabled : Bool) (t : CatalogTable) where
  pub same_outcome : (action : ItemAction) (old : Option Attributes) → outcome_in (Some (expiring_table attribute enabled t)) action old ≡ outcome_in (Some t) action old
  same_outcome action old =
      ap (λ o. outcome_of (where_met (is_met action.condition action.values old) o)) (same_change t.schema attribute enabled action.values old action.change)

  pub same_index_row : (key : ItemKey) (g : ℕ) (item : Attributes) → row_if (Some (expiring_table attribute enabled t)) key g item ≡ row_if (Some t) key g item
  same_index_row key g item = same_row t.schema attribute enabled key g (index_at g (numbered_indexes t)) item
