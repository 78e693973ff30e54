-- The catalogs of legal histories.
use Rattle.std.specs.Prelude.{ℕ, List}
use Rattle.txn_core.specs.Legal.{IsLegal}
use Rattle.txn_core.specs.Laws.{catalog_by}
use Rattle.cell_model.specs.KeptCatalogs.{IsKept}
use Rattle.cell_model.specs.Service.{service}
use Rattle.table_history.specs.Entries.{TableEvent}

-- at every point of a legal history of so many partitions the catalog is one that was made
abbrev pub CatalogsAreKept : ℕ → Type 0
CatalogsAreKept n = (es : List TableEvent) → IsLegal (service n) es → IsKept (catalog_by (service n) es)
