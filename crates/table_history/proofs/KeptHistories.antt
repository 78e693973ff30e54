-- The catalog is kept at every point of a legal history, and so is what every command keeps that is carried out.
use Rattle.std.proofs.Common.{ℕ, List, [], ◌∷◌, ◌++◌, sym, subst, inl, inr}
use Rattle.txn_core.specs.Legal.{IsLegal}
use Rattle.txn_core.specs.Laws.{catalog_by}
use Rattle.cell_model.specs.declared.catalog.Catalog.{Catalog}
use Rattle.cell_model.specs.declared.command.CatalogCommand.{CatalogCommand}
use Rattle.cell_model.specs.Commands.{catalog_after}
use Rattle.cell_model.specs.KeptCatalogs.{IsKept}
use Rattle.cell_model.specs.Service.{service}
use Rattle.cell_model.proofs.CatalogsKept.{commands_keep}
use Rattle.table_history.specs.Entries.{TableEvent}
use Rattle.table_history.specs.KeptHistories.{CatalogsAreKept}
use Rattle.table_history.proofs.Carried.{entry_does}

pub catalogs_are_kept : (n : ℕ) → CatalogsAreKept n
catalogs_are_kept n [] legal = commands_keep.first
catalogs_are_kept n (e ∷ es) legal =
    let was = catalogs_are_kept n es legal.0 in
    elim (entry_does n e es legal) [
      | inl stays ↦ subst IsKept (sym stays) was
      | inr done ↦ subst IsKept (sym done.leaves) (commands_keep.next done.command e.moment (catalog_by (service n) es) was done.free done.carried)
    ]

-- the command keeps this of a catalog that is kept
abbrev pub Keeps : (Catalog → Type 0) → CatalogCommand → Type 0
Keeps P d = (moment : ℕ) (c : Catalog) → IsKept c → P c → P (catalog_after d moment c)

-- what every command keeps holds on
pub holds_on : (n : ℕ) (P : Catalog → Type 0) → ((d : CatalogCommand) → Keeps P d) → (newer es : List TableEvent) → IsLegal (service n) (newer ++ es)
    → P (catalog_by (service n) es) → P (catalog_by (service n) (newer ++ es))
holds_on n P keeps [] es legal was = was
holds_on n P keeps (e ∷ newer) es legal was =
    let now = holds_on n P keeps newer es legal.0 was in
    elim (entry_does n e (newer ++ es) legal) [
      | inl stays ↦ subst P (sym stays) now
      | inr done ↦ subst P (sym done.leaves) (keeps done.command e.moment (catalog_by (service n) (newer ++ es)) (catalogs_are_kept n (newer ++ es) legal.0) now)
    ]
