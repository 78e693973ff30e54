-- What is there under a table's number is that table, at every later point of a legal history.
use Rattle.std.specs.List.{list_any}
use Rattle.std.proofs.Common.{◌≡◌, ℕ, ◌+◌, ◌≤◌, true, ◌||◌, List, ◌++◌, Option, None, Some, option_and_then, refl, sym, subst, ◌∙◌, inl, inr, arith}
use Rattle.std.proofs.lemmas.Bool.{cond_both}
use Rattle.table_schema.specs.declared.schema.Schema.{Schema}
use Rattle.table_schema.specs.KeyName.{is_key_name}
use Rattle.table_request.specs.declared.tables.TableUpdate.{TableUpdate}
use Rattle.txn_core.specs.Laws.{catalog_by}
use Rattle.txn_core.proofs.Exports.{legal_before}
use Rattle.cell_model.specs.declared.catalog.Catalog.{Catalog}
use Rattle.cell_model.specs.declared.catalog.CatalogTable.{CatalogTable}
use Rattle.cell_model.specs.declared.command.CatalogCommand.{CatalogCommand}
use Rattle.cell_model.specs.declared.command.CatalogCommand.TheVariants.{Create, Drop, Change, TimeToLive}
use Rattle.cell_model.specs.Catalogs.{named, numbered, last_drawn}
use Rattle.cell_model.specs.Commands.{subject, is_number, is_typed, expiring_table, updated_table, changed_table, kept, catalog_after}
use Rattle.cell_model.specs.KeptCatalogs.{IsKept, IsMade}
use Rattle.cell_model.specs.Service.{service}
use Rattle.cell_model.proofs.Numbers.{some_parts}
use Rattle.cell_model.proofs.Lookups.{own_number, bounded, after_or_new}
use Rattle.table_history.specs.SameTable.{lasts, IsOfThatTable, NumbersStay}
use Rattle.table_history.proofs.KeptHistories.{Keeps, catalogs_are_kept, holds_on}
use Rattle.table_history.proofs.LastingKinds.{lasting_kind}
use Rattle.table_history.proofs.Found.{own_name, number_of_named, table_found, name_of_numbered}

-- ---- schemas of one table

itself : (s : Schema) → IsOfThatTable s s
itself s = record { name = refl; keys = refl; locals = refl; kinds = λ name h. refl }

-- what lasts of the first lasts of the second
lasts_on : (s t : Schema) → IsOfThatTable s t → (name : List ℕ) → lasts s name ≡ true → lasts t name ≡ true
lasts_on s t that name h = (λ i. is_key_name (that.keys i) name || list_any (λ index. is_key_name index.keys name) (that.locals i)) ∙ h

onward : (s t u : Schema) → IsOfThatTable s t → IsOfThatTable t u → IsOfThatTable s u
onward s t u first second = record {
  name = second.name ∙ first.name;
  keys = second.keys ∙ first.keys;
  locals = second.locals ∙ first.locals;
  kinds = λ name h. second.kinds name (lasts_on s t first name h) ∙ first.kinds name h;
}

-- ---- one command

-- the second table is the first
abbrev IsThat : CatalogTable → CatalogTable → Type 0
IsThat t u = IsOfThatTable t.schema u.schema

updated_that : (update : TableUpdate) (drawn : ℕ) (t : CatalogTable) → IsMade t → IsThat t (updated_table update drawn t)
updated_that update drawn t made =
    cond_both (is_typed t.schema) _ t (IsThat t)
    (λ typed. record { name = refl; keys = refl; locals = refl; kinds = lasting_kind t.schema update made.valid })
    (λ _. itself t.schema)

changed_that : (d : CatalogCommand) (drawn : ℕ) (t u : CatalogTable) → IsMade t → changed_table d drawn t ≡ Some u → IsThat t u
changed_that (Create schema) drawn t u made e = subst (IsThat t) (some_parts t u e) (itself t.schema)
changed_that (Drop name) drawn t u made e = absurd (cc)
changed_that (Change name update) drawn t u made e = subst (IsThat t) (some_parts (updated_table update drawn t) u e) (updated_that update drawn t made)
changed_that (TimeToLive name attribute enabled) drawn t u made e =
    subst (IsThat t) (some_parts (expiring_table attribute enabled t) u e) (record { name = refl; keys = refl; locals = refl; kinds = λ name h. refl })

kept_that : (d : CatalogCommand) (on : Option ℕ) (drawn : ℕ) (t u : CatalogTable) → IsMade t → kept d on drawn t ≡ Some u → IsThat t u
kept_that d on drawn t u made =
    cond_both (is_number on t.number) (changed_table d drawn t) (Some t) (λ z. z ≡ Some u → IsThat t u)
    (λ _. changed_that d drawn t u made) (λ _ e. subst (IsThat t) (some_parts t u e) (itself t.schema))

-- ---- along a history

module _ (t : CatalogTable) where
  -- the table's number was drawn, and what is there under it is the table
  record Knows (c : Catalog) : Type 0 where
    drawn : t.number ≤ last_drawn c
    that : (u : CatalogTable) → numbered c.tables t.number ≡ Some u → IsThat t u

  first : (c : Catalog) (name : List ℕ) → IsKept c → named c.tables name ≡ Some t → Knows c
  first c name kept e =
      let found = number_of_named c.tables name t kept.apart e in
      record {
        drawn = let low = (bounded c.tables t.number t found).0 in omega arith;
        that = λ u at. subst (IsThat t) (some_parts t u (sym found ∙ at)) (itself t.schema);
      }

  left : (d : CatalogCommand) (c : Catalog) → IsKept c → Knows c → (o : Option CatalogTable) → numbered c.tables t.number ≡ o
      → (u : CatalogTable) → option_and_then (kept d (subject d c) (last_drawn c)) o ≡ Some u → IsThat t u
  left d c kept was None e u is = absurd (cc)
  left d c kept was (Some s) e u is =
      onward t.schema s.schema u.schema (was.that s e) (kept_that d (subject d c) (last_drawn c) s u (table_found IsMade c.tables t.number s kept.tables e) is)

  next : (d : CatalogCommand) → Keeps Knows d
  next d moment c kept was = record {
    drawn = let low = was.drawn in omega arith;
    that = λ u at.
        elim (after_or_new d moment c t.number) [
          | inl old ↦ left d c kept was (numbered c.tables t.number) refl u (sym old ∙ at)
          | inr new ↦
              let high : last_drawn c + 1 ≡ t.number = own_number (catalog_after d moment c).tables t.number _ new.is in
              let low = was.drawn in
              absurd (omega arith)
        ];
  }

pub numbers_stay : (n : ℕ) → NumbersStay n
numbers_stay n newer es legal name t is u at =
    let c = catalog_by (service n) es in
    let later = catalog_by (service n) (newer ++ es) in
    let was = first t c name (catalogs_are_kept n es (legal_before (service n) newer es legal)) is in
    let that = (holds_on n (Knows t) (next t) newer es legal was).that u at in
    let same : u.schema.name ≡ name = that.name ∙ own_name c.tables name t is in
    record {
      named = subst (λ x. named later.tables x ≡ Some u) same (name_of_numbered later.tables t.number u (catalogs_are_kept n (newer ++ es) legal).ordered at);
      that = that;
    }
