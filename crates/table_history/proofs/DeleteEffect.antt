-- A Drop that is carried out takes out the table of the DeleteTable that states it, and one that is refused changes nothing.
use Rattle.std.specs.Prelude.{nat_eq}
use Rattle.std.proofs.Common.{◌≡◌, ℕ, false, List, Option, None, Some, option_map, refl, sym, ap, ◌∙◌, inl, inr}
use Rattle.std.proofs.lemmas.Bool.{cond-true, cond-false}
use Rattle.attr_value.specs.Tree.{Attributes}
use Rattle.table_model.specs.declared.reply.Reply.{Reply}
use Rattle.table_model.specs.declared.reply.Reply.TheVariants.{Described, Refused}
use Rattle.table_model.specs.declared.refusal.Refusal.TheVariants as refused_for
use Rattle.table_model.specs.Catalog.{without_table}
use Rattle.table_model.specs.Database.{Database, Table, Effect, table_named, in_table}
use Rattle.txn_core.specs.declared.ruling.Ruling.TheVariants.{Carries, Refuses}
use Rattle.cell_model.specs.declared.key.CellKey.{CellKey}
use Rattle.cell_model.specs.declared.catalog.Catalog.{Catalog}
use Rattle.cell_model.specs.declared.catalog.CatalogTable.{CatalogTable}
use Rattle.cell_model.specs.declared.command.CatalogCommand.TheVariants.{Drop}
use Rattle.cell_model.specs.declared.answer.CatalogAnswer.{CatalogAnswer}
use Rattle.cell_model.specs.declared.answer.CatalogAnswer.TheVariants as answer
use Rattle.cell_model.specs.Catalogs.{named, last_drawn}
use Rattle.cell_model.specs.Commands.{subject, is_number, drop_ruling, kept, catalog_after}
use Rattle.cell_model.specs.KeptCatalogs.{IsKept}
use Rattle.cell_model.proofs.Making.{each_weaker}
use Rattle.cell_model.proofs.Numbers.{some_parts}
use Rattle.table_history.specs.Standing.{StandsFor}
use Rattle.table_history.specs.CommandEffects.{delete_reply}
use Rattle.table_history.proofs.Carried.{Carried, Denied}
use Rattle.table_history.proofs.Altered.{turned, itself, gone, items, others_stay}
use Rattle.table_history.proofs.Named.{absent_named, found_named}
use Rattle.table_history.proofs.Steps.{removed_stands}

dropped : (o : Option CatalogTable) (told : CatalogAnswer) → drop_ruling o ≡ Carries told → (t : CatalogTable) × (o ≡ Some t) × (told ≡ answer.Dropped t.schema)
dropped None told e = absurd (cc)
dropped (Some t) told e = (t, refl, let same : told ≡ answer.Dropped t.schema = cc in same)

undropped : (o : Option CatalogTable) (told : CatalogAnswer) → drop_ruling o ≡ Refuses told → (o ≡ None) × (told ≡ answer.NoTable)
undropped None told e = (refl, let same : told ≡ answer.NoTable = cc in same)
undropped (Some t) told e = absurd (cc)

module _ (name : List ℕ) (moment : ℕ) (c : Catalog) (was : IsKept c) (f : CellKey → Option Attributes) (db : Database) (stands : StandsFor c f db) where
  abbrev deleted : Table → Effect
  deleted table = (without_table db name, Described table.schema)

  replies : (told : CatalogAnswer) (reply other : Reply) → delete_reply name told ≡ Some reply → delete_reply name told ≡ Some other → reply ≡ other
  replies told reply other a b = some_parts reply other (sym a ∙ b)

  module _ (t : CatalogTable) (named_t : named c.tables name ≡ Some t) where
    abbrev left : CatalogTable → Option CatalogTable
    left = kept (Drop name) (subject (Drop name) c) (last_drawn c)

    -- the command is on this table
    on : (s : CatalogTable) → is_number (subject (Drop name) c) s.number ≡ nat_eq t.number s.number
    on s = ap (λ o. is_number (option_map (λ (z : CatalogTable). z.number) o) s.number) named_t

    goes : left t ≡ None
    goes = cond-true (is_number (subject (Drop name) c) t.number) None (Some t) (on t ∙ itself t.number)

    others : (s : CatalogTable) → nat_eq s.number t.number ≡ false → left s ≡ Some s
    others s apart = cond-false (is_number (subject (Drop name) c) s.number) None (Some s) (on s ∙ turned s.number t.number false apart)

    pub left_stands : StandsFor (catalog_after (Drop name) moment c) (items (Drop name) moment c f) (without_table db name)
    left_stands =
        removed_stands f (items (Drop name) moment c f) left t others name goes c.tables db.tables was.apart
        (each_weaker (λ s stays apart. stays (on s ∙ turned s.number t.number false apart)) c.tables (others_stay (Drop name) moment c f)) named_t stands

  pub drops : (told : CatalogAnswer) (reply : Reply) → Carried (Drop name) told c → delete_reply name told ≡ Some reply
      → ((without_table db name, reply) ≡ in_table db name (table_named db name) deleted)
      × StandsFor (catalog_after (Drop name) moment c) (items (Drop name) moment c f) (without_table db name)
  drops told reply (free, carried) told_is =
      let t = dropped (named c.tables name) told carried in
      let u = found_named f c.tables db.tables stands name t.0 t.1 in
      let is : reply ≡ Described t.0.schema = replies told reply _ told_is (ap (delete_reply name) t.2) in (
        (λ i. (without_table db name, is i)) ∙ ap (λ s. (without_table db name, Described s)) (sym u.that.schema)
            ∙ sym (ap (λ o. in_table db name o deleted) u.is),
        left_stands t.0 t.1,
      )

  missing : (told : CatalogAnswer) (reply : Reply) → named c.tables name ≡ None → told ≡ answer.NoTable → delete_reply name told ≡ Some reply
      → (db, reply) ≡ in_table db name (table_named db name) deleted
  missing told reply none told_none told_is =
      let is : reply ≡ Refused (refused_for.NoTable name) = replies told reply _ told_is (ap (delete_reply name) told_none) in
      (λ i. (db, is i)) ∙ sym (ap (λ o. in_table db name o deleted) (absent_named f c.tables db.tables stands name none))

  pub undrops : (told : CatalogAnswer) (reply : Reply) → Denied (Drop name) told c → delete_reply name told ≡ Some reply
      → (db, reply) ≡ in_table db name (table_named db name) deleted
  undrops told reply (inl why) told_is = let none = gone (named c.tables name) told why in missing told reply none.0 none.1 told_is
  undrops told reply (inr (free, why)) told_is = let none = undropped (named c.tables name) told why in missing told reply none.0 none.1 told_is
