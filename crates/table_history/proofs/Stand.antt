-- The items of every legal history are listed: those of the one order by its changes, and the shown ones by its effects.
use Rattle.std.specs.Prelude.{reverse, if◌then◌else◌}
use Rattle.std.proofs.Common.{◌≡◌, ℕ, Bool, true, false, List, [], ◌∷◌, Option, None, Some, refl, sym}
use Rattle.attr_value.specs.Tree.{Attributes}
use Rattle.row_keys.specs.declared.row_key.RowKey.{RowKey}
use Rattle.txn_core.specs.Protocol.{after}
use Rattle.txn_core.specs.Effects.{Effect, Wrote, Prepared, Applied, Released, Changed}
use Rattle.txn_core.specs.State.{Spot, on_item, after_action, kept_or, image_or, here, state_after, spot_wrote, spot_prepared, spot_applied, spot_released}
use Rattle.txn_core.specs.Serial.{Change, Single, Whole, Altered, catalog_of, tables}
use Rattle.txn_core.specs.History.{effects}
use Rattle.txn_core.specs.Legal.{IsLegal}
use Rattle.txn_core.specs.Laws.{catalog_by, item_by, shown_by, row_of, order}
use Rattle.txn_core.proofs.Exports.{legal_run, rows_are_shown}
use Rattle.cell_model.specs.declared.key.CellKey.{CellKey}
use Rattle.cell_model.specs.declared.catalog.Catalog.{Catalog}
use Rattle.cell_model.specs.declared.command.CatalogCommand.{CatalogCommand}
use Rattle.cell_model.specs.Catalogs.{has_table}
use Rattle.cell_model.specs.Keys.{same_key}
use Rattle.cell_model.specs.Actions.{ItemAction, act}
use Rattle.cell_model.specs.Commands.{catalog_after}
use Rattle.cell_model.specs.Service.{protocol, service}
use Rattle.cell_model.proofs.Lawful.{protocol_lawful, service_lawful}
use Rattle.table_history.specs.Entries.{TableEvent}
use Rattle.table_history.specs.Standing.{TablesStand}
use Rattle.table_history.proofs.Listed.{IsListing, IsListed, of_table, none_listed, alike_listed, one_listed, database_stands}

-- a part of one of two
through : {X Y : Type 0} (f : X → Y) (b : Bool) (x y : X) → f (if b then x else y) ≡ (if b then f x else f y)
through f true x y = refl
through f false x y = refl

-- where tables are made and dropped, the items of each go or stay together
kept_listed : (f g : CellKey → Option Attributes) (before now : ℕ → Bool) → ((m : ℕ) (key : RowKey) → g (of_table m key) ≡ kept_or (before m) (now m) (f (of_table m key)) None)
    → IsListed f → IsListed g
kept_listed f g before now is listed m = go (before m) (now m) (is m)
  where
    go : (b c : Bool) → ((key : RowKey) → g (of_table m key) ≡ kept_or b c (f (of_table m key)) None) → IsListing g m
    go true true h = alike_listed f g m h (listed m)
    go false true h = none_listed g m h
    go b false h = none_listed g m h

module _ (n : ℕ) where
  -- ---- the one order

  -- the actions of a transaction: of two on one item the first stands
  whole_listed : (c : Catalog) (f : CellKey → Option Attributes) (actions : List ItemAction) → IsListed f
      → IsListed (λ q. after_action (protocol n) c (on_item (protocol n) actions q) (f q))
  whole_listed c f [] listed = listed
  whole_listed c f (a ∷ actions) listed =
      one_listed (λ q. after_action (protocol n) c (on_item (protocol n) actions q) (f q)) (λ q. after_action (protocol n) c (on_item (protocol n) (a ∷ actions) q) (f q))
      (λ q. after (act c a (f q)) (f q)) a.key
      (λ q. through (λ o. after_action (protocol n) c o (f q)) (same_key a.key q) (Some a) (on_item (protocol n) actions q))
      (whole_listed c f actions listed)

  order_listed : (cs : List (Change ItemAction CatalogCommand)) → IsListed (λ q. tables (protocol n) cs q)
  order_listed [] = λ m. none_listed (λ q. None) m (λ key. refl)
  order_listed (Single a ∷ cs) =
      one_listed (λ q. tables (protocol n) cs q) (λ q. tables (protocol n) (Single a ∷ cs) q)
      (λ q. after (act (catalog_of (protocol n) cs) a (tables (protocol n) cs q)) (tables (protocol n) cs q)) a.key (λ q. refl) (order_listed cs)
  order_listed (Whole number stamp actions ∷ cs) = whole_listed (catalog_of (protocol n) cs) (λ q. tables (protocol n) cs q) actions (order_listed cs)
  order_listed (Altered d moment ∷ cs) =
      let c = catalog_of (protocol n) cs in
      kept_listed (λ q. tables (protocol n) cs q) (λ q. tables (protocol n) (Altered d moment ∷ cs) q) (has_table c) (has_table (catalog_after d moment c)) (λ m key. refl) (order_listed cs)

  -- ---- what is committed, effect by effect

  abbrev row : List (Effect CellKey ItemAction CatalogCommand) → CellKey → Option Attributes
  row es q = row_of (protocol n) es q

  rows_listed : (es : List (Effect CellKey ItemAction CatalogCommand)) → IsListed (row es)
  rows_listed [] = λ m. none_listed (row []) m (λ key. refl)
  rows_listed (Wrote a moment ∷ es) =
      let w = state_after (protocol n) es in
      one_listed (row es) (row (Wrote a moment ∷ es)) (λ q. after (act w.catalog a (row es q)) (row es q)) a.key
      (λ q. through (λ (s : Spot Attributes). s.row) (same_key a.key q) (spot_wrote (protocol n) w.catalog (here (protocol n) w a.key) a moment (w.spot q)) (w.spot q)) (rows_listed es)
  rows_listed (Prepared number stamp a ∷ es) =
      let w = state_after (protocol n) es in
      one_listed (row es) (row (Prepared number stamp a ∷ es)) (row es) a.key
      (λ q. through (λ (s : Spot Attributes). s.row) (same_key a.key q) (spot_prepared (protocol n) w.catalog number stamp a (w.spot q)) (w.spot q)) (rows_listed es)
  rows_listed (Applied number k ∷ es) =
      let w = state_after (protocol n) es in
      one_listed (row es) (row (Applied number k ∷ es)) (λ q. image_or (row es q) (w.spot q).pend) k
      (λ q. through (λ (s : Spot Attributes). s.row) (same_key k q) (spot_applied (here (protocol n) w k) number (w.spot q)) (w.spot q)) (rows_listed es)
  rows_listed (Released number k ∷ es) =
      let w = state_after (protocol n) es in
      one_listed (row es) (row (Released number k ∷ es)) (row es) k
      (λ q. through (λ (s : Spot Attributes). s.row) (same_key k q) (spot_released (w.spot q)) (w.spot q)) (rows_listed es)
  rows_listed (Changed d moment ∷ es) =
      let c = (state_after (protocol n) es).catalog in
      kept_listed (row es) (row (Changed d moment ∷ es)) (has_table c) (has_table (catalog_after d moment c)) (λ m key. refl) (rows_listed es)
  rows_listed (_ ∷ es) = rows_listed es

  -- which is what is shown
  shown_listed : (es : List TableEvent) → IsLegal (service n) es → IsListed (shown_by (service n) es)
  shown_listed es legal m =
      alike_listed (row (effects es)) (shown_by (service n) es) m
      (λ key. sym (rows_are_shown (protocol n) (protocol_lawful n) (effects es) (legal_run (service n) (service_lawful n) es legal) (of_table m key)))
      (rows_listed (effects es) m)

  pub tables_stand : TablesStand n
  tables_stand log legal =
      let es = reverse log in
      record {
        tables = database_stands (item_by (service n) es) (order_listed (order (service n) es)) (catalog_by (service n) es);
        shown = database_stands (shown_by (service n) es) (shown_listed es legal) (catalog_by (service n) es);
      }
