-- A Create that is carried out makes the table of the CreateTable that states it, and one that is refused nothing.
use Rattle.std.specs.Prelude.{◌⊎◌, nat_le, length, if◌then◌else◌}
use Rattle.std.specs.List.Sorted.{IsStrictlySortedBy}
use Rattle.std.proofs.Common.{◌≡◌, ℕ, ◌+◌, Bool, true, false, List, [], Option, None, Some, is_some, refl, sym, ap, subst, ◌∙◌, inl, inr}
use Rattle.std.proofs.lemmas.Bool.{cond-true, cond-false}
use Rattle.attr_value.specs.Tree.{Attributes}
use Rattle.table_schema.specs.declared.schema.Schema.{Schema}
use Rattle.table_schema.specs.declared.fault.SchemaFault.{SchemaFault}
use Rattle.table_schema.specs.Index.{stated_of}
use Rattle.table_model.specs.declared.reply.Reply.{Reply}
use Rattle.table_model.specs.declared.reply.Reply.TheVariants.{Described, Refused}
use Rattle.table_model.specs.declared.refusal.Refusal.TheVariants as refused_for
use Rattle.table_model.specs.Catalog.{most_tables, made_at, with_new_table, create_if}
use Rattle.table_model.specs.Database.{Database, table_named}
use Rattle.txn_core.specs.declared.ruling.Ruling.TheVariants.{Carries, Refuses}
use Rattle.cell_model.specs.declared.key.CellKey.{CellKey}
use Rattle.cell_model.specs.declared.catalog.Catalog.{Catalog}
use Rattle.cell_model.specs.declared.catalog.CatalogTable.{CatalogTable}
use Rattle.cell_model.specs.declared.command.CatalogCommand.TheVariants.{Create}
use Rattle.cell_model.specs.declared.answer.CatalogAnswer.{CatalogAnswer}
use Rattle.cell_model.specs.declared.answer.CatalogAnswer.TheVariants as answer
use Rattle.cell_model.specs.Catalogs.{named, entered, last_drawn}
use Rattle.cell_model.specs.Commands.{judged, new_table, catalog_after}
use Rattle.cell_model.specs.FirstFault.{first_fault}
use Rattle.cell_model.proofs.CatalogsKept.{unchanged}
use Rattle.cell_model.proofs.Making.{each_weaker}
use Rattle.cell_model.proofs.Numbers.{some_parts}
use Rattle.table_history.specs.Standing.{StandsFor}
use Rattle.table_history.specs.CommandEffects.{create_reply}
use Rattle.table_history.proofs.Carried.{Carried, Denied}
use Rattle.table_history.proofs.Altered.{items, others_stay, none_yet}
use Rattle.table_history.proofs.Named.{absent_named, as_many, found_named}
use Rattle.table_history.proofs.Steps.{entered_stands}

absent : (o : Option CatalogTable) → (if is_some o then Some answer.Exists else None) ≡ None → o ≡ None
absent None e = refl
absent (Some t) e = absurd (cc)

present : (o : Option CatalogTable) (told : CatalogAnswer) → (if is_some o then Some answer.Exists else None) ≡ Some told → (t : CatalogTable) × (o ≡ Some t) × (told ≡ answer.Exists)
present None told e = absurd (cc)
present (Some t) told e = (t, refl, let same : told ≡ answer.Exists = cc in same)

-- there is room, and this is told
made : (b : Bool) (made_is : CatalogAnswer) (f : Option SchemaFault) (told : CatalogAnswer) → (if b then Refuses answer.Full else judged made_is f) ≡ Carries told → (b ≡ false) × (told ≡ made_is)
made true made_is f told e = absurd (cc)
made false made_is None told e = (refl, let same : told ≡ made_is = cc in same)
made false made_is (Some fault) told e = absurd (cc)

-- there is no room, or the schema has a fault
unmade : (b : Bool) (made_is : CatalogAnswer) (f : Option SchemaFault) (told : CatalogAnswer) → (if b then Refuses answer.Full else judged made_is f) ≡ Refuses told
    → ((b ≡ true) × (told ≡ answer.Full)) ⊎ ((fault : SchemaFault) × (told ≡ answer.BadSchema fault))
unmade true made_is f told e = inl (refl, let same : told ≡ answer.Full = cc in same)
unmade false made_is None told e = absurd (cc)
unmade false made_is (Some fault) told e = inr (fault, let same : told ≡ answer.BadSchema fault = cc in same)

module _ (schema : Schema) (moment : ℕ) (c : Catalog) (f : CellKey → Option Attributes) (db : Database) (stands : StandsFor c f db) where
  abbrev is_full : List CatalogTable → Bool
  is_full ts = nat_le most_tables (length ts)

  full_alike : nat_le most_tables (length db.tables) ≡ is_full c.tables
  full_alike = ap (nat_le most_tables) (as_many f c.tables db.tables stands)

  -- what is told to a CreateTable is the reply
  replies : (told : CatalogAnswer) (reply other : Reply) → create_reply schema moment told ≡ Some reply → create_reply schema moment told ≡ Some other → reply ≡ other
  replies told reply other a b = some_parts reply other (sym a ∙ b)

  -- ---- carried out

  new_stands : named c.tables schema.name ≡ None → StandsFor (catalog_after (Create schema) moment c) (items (Create schema) moment c f) (with_new_table db (made_at moment schema))
  unfolding IsStrictlySortedBy
  new_stands none =
      subst (λ ts. StandsFor (record { drawn = last_drawn c; tables = entered (new_table schema moment (last_drawn c)) ts }) (items (Create schema) moment c f) (with_new_table db (made_at moment schema)))
      (sym (unchanged schema (last_drawn c) c.tables))
      (entered_stands f (items (Create schema) moment c f) (new_table schema moment (last_drawn c)) (record { number = db.made + 1; schema = made_at moment schema; rows = [] })
      (record { name = refl; schema = refl; ordered = tt; rows = λ key. sym (none_yet (Create schema) moment c f key) })
      c.tables db.tables none (each_weaker (λ t stays. stays refl) c.tables (others_stay (Create schema) moment c f)) stands)

  pub created : (told : CatalogAnswer) (reply : Reply) → Carried (Create schema) told c → create_reply schema moment told ≡ Some reply
      → ((with_new_table db (made_at moment schema), reply) ≡ create_if db schema moment (table_named db schema.name))
      × StandsFor (catalog_after (Create schema) moment c) (items (Create schema) moment c f) (with_new_table db (made_at moment schema))
  created told reply (free, carried) told_is =
      let none = absent (named c.tables schema.name) free in
      let room = made (is_full c.tables) (answer.Made (last_drawn c + 1)) (first_fault (stated_of schema)) told carried in
      let is : reply ≡ Described (made_at moment schema) = replies told reply _ told_is (ap (create_reply schema moment) room.1) in (
        (λ i. (with_new_table db (made_at moment schema), is i))
            ∙ sym (ap (create_if db schema moment) (absent_named f c.tables db.tables stands schema.name none) ∙ cond-false (nat_le most_tables (length db.tables)) _ _ (full_alike ∙ room.0)),
        new_stands none,
      )

  -- ---- refused

  pub uncreated : (told : CatalogAnswer) (reply : Reply) → Denied (Create schema) told c → create_reply schema moment told ≡ Some reply
      → (db, reply) ≡ create_if db schema moment (table_named db schema.name)
  uncreated told reply (inl why) told_is =
      let t = present (named c.tables schema.name) told why in
      let is : reply ≡ Refused (refused_for.TableExists schema.name) = replies told reply _ told_is (ap (create_reply schema moment) t.2) in
      let u = found_named f c.tables db.tables stands schema.name t.0 t.1 in
      (λ i. (db, is i)) ∙ sym (ap (create_if db schema moment) u.is)
  uncreated told reply (inr (free, why)) told_is =
      elim (unmade (is_full c.tables) (answer.Made (last_drawn c + 1)) (first_fault (stated_of schema)) told why) [
        | inl full ↦
            let none = absent (named c.tables schema.name) free in
            let is : reply ≡ Refused refused_for.TooManyTables = replies told reply _ told_is (ap (create_reply schema moment) full.1) in
            (λ i. (db, is i))
            ∙ sym (ap (create_if db schema moment) (absent_named f c.tables db.tables stands schema.name none) ∙ cond-true (nat_le most_tables (length db.tables)) _ _ (full_alike ∙ full.0))
        | inr bad ↦ let none = sym (ap (create_reply schema moment) bad.1) ∙ told_is in absurd (cc)
      ]
