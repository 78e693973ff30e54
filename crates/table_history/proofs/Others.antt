-- An entry that puts nothing into the one order leaves the tables.
use Rattle.std.proofs.Common.{◌≡◌, ℕ, List, [], ◌∷◌, ◌++◌, reverse, sym, subst, ◌∙◌, ap}
use Rattle.txn_core.specs.Serial.{Change, catalog_of, tables}
use Rattle.txn_core.specs.Laws.{order}
use Rattle.txn_core.proofs.Exports.{newest, others_leave_the_order}
use Rattle.table_model.specs.Database.{Database}
use Rattle.cell_model.specs.declared.command.CatalogCommand.{CatalogCommand}
use Rattle.cell_model.specs.Actions.{ItemAction}
use Rattle.cell_model.specs.Service.{protocol, service}
use Rattle.table_history.specs.Standing.{StandsFor, OthersLeaveTables}

module _ (n : ℕ) (db : Database) where
  -- a database stands for what these changes make
  abbrev Stands : List (Change ItemAction CatalogCommand) → Type 0
  Stands cs = StandsFor (catalog_of (protocol n) cs) (λ q. tables (protocol n) cs q) db

pub others_leave_tables : (n : ℕ) → OthersLeaveTables n
others_leave_tables n log e other db stands =
    let same : order (service n) (reverse (log ++ e ∷ [])) ≡ order (service n) (reverse log) =
    ap (order (service n)) (newest log e) ∙ others_leave_the_order e (reverse log) other in
    subst (Stands n db) (sym same) stands
