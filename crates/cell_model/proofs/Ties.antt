-- How these tables stand to the sequential database.
use Rattle.std.specs.Prelude.{nat_eq, unwrap_or}
use Rattle.std.specs.BTreeMap.{insert_entry}
use Rattle.std.specs.Ordering.{match_ordering}
use Rattle.std.specs.declared.cmp.Ordering.{Ordering}
use Rattle.std.specs.declared.cmp.Ordering.TheVariants as order
use Rattle.std.proofs.Common.{◌≡◌, ℕ, true, ◌&&◌, List, [], ◌∷◌, map, Option, None, Some, option_map, refl, sym, ap, ◌∙◌}
use Rattle.std.proofs.lemmas.Bool.{cond-true, and_from}
use Rattle.std.proofs.lemmas.Bool.Decides.{Decides-eqb}
use Rattle.attr_value.specs.Tree.{Attributes}
use Rattle.attr_value.specs.declared.value.Value.{Value}
use Rattle.table_schema.specs.declared.index.GlobalIndex.{GlobalIndex}
use Rattle.table_schema.specs.declared.schema.Schema.{Schema}
use Rattle.table_request.specs.declared.transactions.TransactAction.{TransactAction}
use Rattle.table_request.specs.declared.transactions.ActionChange.{ActionChange}
use Rattle.table_request.specs.declared.transactions.ActionChange.TheVariants.{Put, Update, Delete, Check}
use Rattle.expr_parse.specs.declared.tree.Update.{Update as ItemUpdate}
use Rattle.expr_parse.specs.Update.{update_tree}
use Rattle.expr_words.specs.declared.tree.Condition.{Condition}
use Rattle.expr_words.specs.Trees.{tree}
use Rattle.item_keys.specs.Row.{only, is_kept}
use Rattle.row_keys.specs.declared.position.Position.{Position}
use Rattle.row_keys.specs.declared.row_key.RowKey.{RowKey}
use Rattle.row_keys.specs.Keys.{position_order}
use Rattle.row_keys.specs.Rows.{Rows, Entries, position_in, entered, index_of, global_entries}
use Rattle.table_model.specs.Outcome as database_outcome
use Rattle.table_model.specs.Transactions as database
use Rattle.cell_model.specs.declared.key.ItemKey.{ItemKey}
use Rattle.cell_model.specs.declared.catalog.CatalogTable.{CatalogTable}
use Rattle.cell_model.specs.Actions.{stated_change, is_met, updated_by, change_outcome}
use Rattle.cell_model.specs.Catalogs.{numbered_indexes, index_at}
use Rattle.cell_model.specs.IndexRows.{row_in, row_at}
use Rattle.cell_model.specs.Laws.{ActAsTheDatabase, with_entry, with_row, rows_made, RowsAreTheDatabases}

-- ---- actions

met_alike : (condition : Option Condition) (values : List Value) (old : Option Attributes) → is_met (option_map tree condition) values old ≡ database_outcome.is_met condition values old
met_alike None values old = refl
met_alike (Some condition) values old = refl

-- an update by its tree is the update; so it is where there is none
pub updated_alike : (update : Option ItemUpdate) (values : List Value) (item : Attributes) → updated_by (option_map update_tree update) values item ≡ database_outcome.updated_by update values item
updated_alike None values item = refl
updated_alike (Some update) values item = refl

changed_alike : (schema : Schema) (action : TransactAction) (old : Option Attributes) (change : ActionChange)
    → change_outcome schema action.values old (stated_change change) ≡ database.change_outcome schema action old change
changed_alike schema action old (Put item) = refl
changed_alike schema action old (Update key update) = refl
changed_alike schema action old (Delete key) = refl
changed_alike schema action old (Check key) = refl

pub act_as_the_database : ActAsTheDatabase
act_as_the_database = record {
  transacts = λ schema key action old i. database_outcome.where_met (met_alike action.condition action.values old i) (changed_alike schema action old action.change i);
  puts = λ schema key r old i. database_outcome.where_met (met_alike r.condition r.values old i) (database_outcome.put_outcome schema r.item);
  updates = λ schema key r old i.
      database_outcome.where_met (met_alike r.condition r.values old i) (database_outcome.fit_if schema (updated_alike r.update r.values (unwrap_or old r.key) i));
  deletes = λ schema key r old i. database_outcome.where_met (met_alike r.condition r.values old i) database_outcome.delete_outcome;
}

-- ---- index rows

mapped_in : (f : Attributes → Attributes) (o : Ordering) (e : Position × Attributes) (at : Position) (v : Attributes) (es : Entries) (rest : Entries)
    → map (λ e. (e.0, f e.1)) (insert_entry position_order es at v) ≡ rest
    → map (λ e. (e.0, f e.1)) (match_ordering o ((at, v) ∷ e ∷ es) ((e.0, v) ∷ es) (e ∷ insert_entry position_order es at v))
    ≡ match_ordering o ((at, f v) ∷ (e.0, f e.1) ∷ map (λ e. (e.0, f e.1)) es) ((e.0, f v) ∷ map (λ e. (e.0, f e.1)) es) ((e.0, f e.1) ∷ rest)
mapped_in f order.Less e at v es rest is = refl
mapped_in f order.Equal e at v es rest is = refl
mapped_in f order.Greater e at v es rest is = ap (λ l. (e.0, f e.1) ∷ l) is

mapped_entry : (f : Attributes → Attributes) (es : Entries) (at : Position) (v : Attributes)
    → map (λ e. (e.0, f e.1)) (insert_entry position_order es at v) ≡ insert_entry position_order (map (λ e. (e.0, f e.1)) es) at (f v)
mapped_entry f [] at v = refl
mapped_entry f (e ∷ es) at v = mapped_in f (position_order at e.0) e at v es _ (mapped_entry f es at v)

itself : (n : ℕ) → nat_eq n n ≡ true
itself n = (Decides-eqb n n).1 refl

module _ (table : CatalogTable) (number : ℕ) (index : GlobalIndex) where
  abbrev keeps : Attributes → Attributes
  keeps = only (is_kept table.schema index)

  one_row : (key : RowKey) (item : Attributes) (at : Option Position) (es made : Entries) → made ≡ map (λ e. (e.0, keeps e.1)) es
      → with_row table.number number (option_map (row_at (record { table = table.number; key = key }) number table.schema index item) at) made
      ≡ map (λ e. (e.0, keeps e.1)) (entered at item es)
  one_row key item None es made is = is
  one_row key item (Some at) es made is =
      ap (λ o. with_entry o made)
      (cond-true (nat_eq table.number table.number && nat_eq number number) (Some (at, keeps item)) None (and_from _ _ (itself table.number) (itself number)))
      ∙ ap (λ l. insert_entry position_order l at (keeps item)) is
      ∙ sym (mapped_entry keeps es at item)

  all_rows : (rows : Rows) → index_at number (numbered_indexes table) ≡ Some index → rows_made table number rows ≡ global_entries table.schema index rows
  all_rows [] found = refl
  all_rows (row ∷ rows) found =
      let key : ItemKey = record { table = table.number; key = row.0 } in
      ap (λ o. with_row table.number number (row_in key number table.schema o row.1) (rows_made table number rows)) found
      ∙ one_row row.0 row.1 (position_in table.schema index.keys row.0 row.1) (index_of table.schema index.keys rows) (rows_made table number rows) (all_rows rows found)

pub rows_are_the_databases : RowsAreTheDatabases
rows_are_the_databases table number index rows found = all_rows table number index rows found
