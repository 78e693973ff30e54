-- A Change that is carried out makes of its table what the UpdateTable does that states it, and one that is refused nothing.
use Rattle.std.specs.Prelude.{nat_eq, if◌then◌else◌}
use Rattle.std.proofs.Common.{◌≡◌, ℕ, Bool, true, false, Option, None, Some, is_some, option_map, option_and_then, refl, sym, ap, subst, ◌∙◌, inl, inr}
use Rattle.std.proofs.lemmas.Bool.{cond-true, cond-false}
use Rattle.attr_value.specs.Tree.{Attributes}
use Rattle.table_schema.specs.declared.schema.Schema.{Schema}
use Rattle.table_schema.specs.declared.fault.SchemaFault.{SchemaFault}
use Rattle.table_schema.specs.declared.fault.SchemaFault.TheVariants.{BadDefinition, BadIndexName}
use Rattle.table_schema.specs.Index.{stated_of}
use Rattle.table_request.specs.declared.tables.UpdateTable.{UpdateTable}
use Rattle.table_request.specs.declared.tables.IndexChange.{IndexChange}
use Rattle.table_request.specs.declared.tables.IndexChange.TheVariants.{Make, Remove}
use Rattle.table_model.specs.declared.reply.Reply.{Reply}
use Rattle.table_model.specs.declared.reply.Reply.TheVariants.{Described, Refused}
use Rattle.table_model.specs.declared.refusal.Refusal.TheVariants as refused_for
use Rattle.table_model.specs.Catalog.{has_index, index_refusal, has_bad_definition, updated_schema, schema_refusal, IsRefusedFirst, IsBadlyDefinedOr, IsUpdatedTo, IsUpdateIn, IsUpdateTable}
use Rattle.table_model.specs.Database.{Database, Table, table_named, with_table}
use Rattle.table_model.specs.Pages.{global_named}
use Rattle.txn_core.specs.declared.ruling.Ruling.{Ruling}
use Rattle.txn_core.specs.declared.ruling.Ruling.TheVariants.{Carries, Refuses}
use Rattle.cell_model.specs.declared.key.CellKey.{CellKey}
use Rattle.cell_model.specs.declared.catalog.Catalog.{Catalog}
use Rattle.cell_model.specs.declared.catalog.CatalogTable.{CatalogTable}
use Rattle.cell_model.specs.declared.command.CatalogCommand.{CatalogCommand}
use Rattle.cell_model.specs.declared.command.CatalogCommand.TheVariants.{Change}
use Rattle.cell_model.specs.declared.answer.CatalogAnswer.{CatalogAnswer}
use Rattle.cell_model.specs.declared.answer.CatalogAnswer.TheVariants as answer
use Rattle.cell_model.specs.Catalogs.{named, numbered, has_table, last_drawn}
use Rattle.cell_model.specs.Commands.{subject, is_number, is_typed, index_fault, judged, unless, typed_ruling, update_ruling, change_ruling, updated_table, kept, catalog_after}
use Rattle.cell_model.specs.FirstFault.{first_fault, TellsFirst}
use Rattle.cell_model.specs.KeptCatalogs.{IsKept, IsMade}
use Rattle.cell_model.proofs.FirstFaults.{answered}
use Rattle.cell_model.proofs.IndexFaults.{unrefused}
use Rattle.cell_model.proofs.Keeping.{valid_typed}
use Rattle.cell_model.proofs.Lookups.{kept_found}
use Rattle.cell_model.proofs.Making.{each_weaker}
use Rattle.cell_model.proofs.Numbers.{some_parts}
use Rattle.table_history.specs.Standing.{IsTableOf, StandsFor}
use Rattle.table_history.specs.CommandEffects.{index_named, update_reply}
use Rattle.table_history.proofs.Carried.{Carried, Denied}
use Rattle.table_history.proofs.Altered.{turned, itself, gone, items, others_stay, items_stay}
use Rattle.table_history.proofs.Found.{number_of_named, table_found}
use Rattle.table_history.proofs.Listed.{of_table}
use Rattle.table_history.proofs.Named.{absent_named, found_named}
use Rattle.table_history.proofs.Steps.{Stays, set_stands}

-- where it is there
pub there : (o : Option CatalogTable) → (if is_some o then None else Some answer.NoTable) ≡ None → (t : CatalogTable) × (o ≡ Some t)
there None e = absurd (cc)
there (Some t) e = (t, refl)

-- ---- what becomes of an update

module _ (r : UpdateTable) (db : Database) (table : Table) where
  -- what the sequential database makes of a table of this schema
  abbrev By : Schema → Database → Reply → Type 0
  By s new reply =
      IsRefusedFirst (index_refusal s r.update.index) db new reply
      (IsBadlyDefinedOr (has_bad_definition s.definitions r.update.definitions) db new reply (IsUpdatedTo db r.table table (updated_schema s r.update) new reply))

  module _ (s : Schema) (reply : Reply) where
    abbrev Rest : Database → Type 0
    Rest new =
        IsBadlyDefinedOr (has_bad_definition s.definitions r.update.definitions) db new reply (IsUpdatedTo db r.table table (updated_schema s r.update) new reply)

    -- an index that goes and is not there, or that comes and is
    by_index : (change : Option IndexChange) → r.update.index ≡ change → (fault : CatalogAnswer) → index_fault s change ≡ Some fault → update_reply r fault ≡ Some reply
        → IsRefusedFirst (index_refusal s change) db db reply (Rest db)
    by_index None is fault e told = absurd (cc)
    by_index (Some (Remove name)) is fault e told = go (is_some (global_named name s.globals)) e
      where
        go : (b : Bool) → (if b then None else Some answer.NoIndex) ≡ Some fault → IsRefusedFirst (if b then None else Some (refused_for.NoIndex name)) db db reply (Rest db)
        go true e = absurd (cc)
        go false e =
            let same : reply ≡ Refused (refused_for.NoIndex name) =
            some_parts reply _ (sym told ∙ ap (update_reply r) (let back : fault ≡ answer.NoIndex = cc in back) ∙ ap (λ change. index_named change) is) in
            λ i. (db, same i)
    by_index (Some (Make index)) is fault e told = go (has_index s index.name) e
      where
        go : (b : Bool) → (if b then Some answer.IndexExists else None) ≡ Some fault → IsRefusedFirst (if b then Some (schema_refusal BadIndexName) else None) db db reply (Rest db)
        go true e =
            let same : reply ≡ Refused (schema_refusal BadIndexName) =
            some_parts reply _ (sym told ∙ ap (update_reply r) (let back : fault ≡ answer.IndexExists = cc in back)) in
            λ i. (db, same i)
        go false e = absurd (cc)

    no_index : (change : Option IndexChange) → index_fault s change ≡ None → (new : Database) → Rest new → IsRefusedFirst (index_refusal s change) db new reply (Rest new)
    no_index change e new rest = subst (λ o. IsRefusedFirst o db new reply (Rest new)) (sym (unrefused s change e)) rest

    abbrev stated : Schema
    stated = updated_schema s r.update

    -- the ruling from the definitions on
    carried_rest : (b : Bool) (o : Option SchemaFault) (told : CatalogAnswer) → TellsFirst (stated_of stated) o → update_reply r told ≡ Some reply
        → (if b then Refuses (answer.BadSchema BadDefinition) else judged (answer.Changed stated) o) ≡ Carries told
        → IsBadlyDefinedOr b db (with_table db r.table (record table { schema = stated })) reply (IsUpdatedTo db r.table table stated (with_table db r.table (record table { schema = stated })) reply)
    carried_rest true o told first told_is e = absurd (cc)
    carried_rest false (Some fault) told first told_is e = absurd (cc)
    carried_rest false None told first told_is e =
        let same : reply ≡ Described stated = some_parts reply _ (sym told_is ∙ ap (update_reply r) (let back : told ≡ answer.Changed stated = cc in back)) in
        subst (λ z. IsUpdatedTo db r.table table stated (with_table db r.table (record table { schema = stated })) z) (sym same) (first, refl, refl)

    refused_rest : (b : Bool) (o : Option SchemaFault) (told : CatalogAnswer) → TellsFirst (stated_of stated) o → update_reply r told ≡ Some reply
        → (if b then Refuses (answer.BadSchema BadDefinition) else judged (answer.Changed stated) o) ≡ Refuses told
        → IsBadlyDefinedOr b db db reply (IsUpdatedTo db r.table table stated db reply)
    refused_rest true o told first told_is e =
        let same : reply ≡ Refused (schema_refusal BadDefinition) = some_parts reply _ (sym told_is ∙ ap (update_reply r) (let back : told ≡ answer.BadSchema BadDefinition = cc in back)) in
        λ i. (db, same i)
    refused_rest false None told first told_is e = absurd (cc)
    refused_rest false (Some fault) told first told_is e =
        let same : reply ≡ Refused (schema_refusal fault) = some_parts reply _ (sym told_is ∙ ap (update_reply r) (let back : told ≡ answer.BadSchema fault = cc in back)) in
        subst (λ z. IsUpdatedTo db r.table table stated db z) (sym same) (refl, (fault, first, refl))

    module _ (told : CatalogAnswer) (told_is : update_reply r told ≡ Some reply) where
      abbrev rest_ruling : Ruling CatalogAnswer
      rest_ruling = if has_bad_definition s.definitions r.update.definitions then Refuses (answer.BadSchema BadDefinition) else judged (answer.Changed stated) (first_fault (stated_of stated))

      carried_by_schema : (o : Option CatalogAnswer) → index_fault s r.update.index ≡ o → unless o rest_ruling ≡ Carries told → By s (with_table db r.table (record table { schema = stated })) reply
      carried_by_schema (Some fault) e is = absurd (cc)
      carried_by_schema None e is =
          no_index r.update.index e (with_table db r.table (record table { schema = stated }))
          (carried_rest (has_bad_definition s.definitions r.update.definitions) (first_fault (stated_of stated)) told (answered (stated_of stated)) told_is is)

      refused_by_schema : (o : Option CatalogAnswer) → index_fault s r.update.index ≡ o → unless o rest_ruling ≡ Refuses told → By s db reply
      refused_by_schema (Some fault) e is =
          let same : fault ≡ told = cc in
          by_index r.update.index refl fault e (ap (update_reply r) same ∙ told_is)
      refused_by_schema None e is =
          no_index r.update.index e db
          (refused_rest (has_bad_definition s.definitions r.update.definitions) (first_fault (stated_of stated)) told (answered (stated_of stated)) told_is is)

module _ (r : UpdateTable) (moment : ℕ) (c : Catalog) (was : IsKept c) (f : CellKey → Option Attributes) (db : Database) (stands : StandsFor c f db) where
  abbrev d : CatalogCommand
  d = Change r.table r.update

  module _ (t : CatalogTable) (named_t : named c.tables r.table ≡ Some t) where
    abbrev left : CatalogTable → Option CatalogTable
    left = kept d (subject d c) (last_drawn c)

    abbrev now : CatalogTable
    now = updated_table r.update (last_drawn c) t

    on : (s : CatalogTable) → is_number (subject d c) s.number ≡ nat_eq t.number s.number
    on s = ap (λ o. is_number (option_map (λ (z : CatalogTable). z.number) o) s.number) named_t

    becomes : left t ≡ Some now
    becomes = cond-true (is_number (subject d c) t.number) (Some now) (Some t) (on t ∙ itself t.number)

    others : (s : CatalogTable) → nat_eq s.number t.number ≡ false → left s ≡ Some s
    others s apart = cond-false (is_number (subject d c) s.number) _ (Some s) (on s ∙ turned s.number t.number false apart)

    numbered_t : numbered c.tables t.number ≡ Some t
    numbered_t = number_of_named c.tables r.table t was.apart named_t

    typed : is_typed t.schema ≡ true
    typed = valid_typed t.schema (table_found IsMade c.tables t.number t was.tables numbered_t).valid

    -- the table's number, name and schema
    abbrev as_stated : CatalogTable
    as_stated = record { number = t.number; schema = updated_schema t.schema r.update; indexes = now.indexes }

    number_is : now.number ≡ t.number
    number_is = ap (λ (z : CatalogTable). z.number) (cond-true (is_typed t.schema) _ t typed)

    schema_is : now.schema ≡ updated_schema t.schema r.update
    schema_is = ap (λ (z : CatalogTable). z.schema) (cond-true (is_typed t.schema) _ t typed)

    still_there : has_table (catalog_after d moment c) t.number ≡ true
    still_there =
        ap is_some (kept_found d (subject d c) (last_drawn c) t.number c.tables ∙ ap (option_and_then left) numbered_t ∙ becomes)

    its_items : Stays f (items d moment c f) t
    its_items = table_found (λ z. has_table (catalog_after d moment c) z.number ≡ true → Stays f (items d moment c f) z) c.tables t.number t (items_stay d moment c f) numbered_t still_there

    abbrev with_schema : Table → Table
    with_schema table = record table { schema = updated_schema t.schema r.update }

    its : (table : Table) → IsTableOf f t (t.schema.name, table) → IsTableOf (items d moment c f) now (now.schema.name, with_schema table)
    its table that = record {
      name = refl;
      schema = sym schema_is;
      ordered = that.ordered;
      rows = λ key. that.rows key ∙ sym (its_items key) ∙ ap (λ m. items d moment c f (of_table m key)) (sym number_is);
    }

    pub now_stands : (table : Table) → IsTableOf f t (t.schema.name, table) → StandsFor (catalog_after d moment c) (items d moment c f) (with_table db r.table (with_schema table))
    now_stands table that =
        set_stands f (items d moment c f) left t others r.table now (with_schema table) becomes (ap (λ (z : Schema). z.name) schema_is) (its table that) c.tables db.tables was.apart
        (each_weaker (λ s stays apart. stays (on s ∙ turned s.number t.number false apart)) c.tables (others_stay d moment c f)) named_t stands

    ruled : update_ruling r.update t ≡ typed_ruling r.update t
    ruled = cond-true (is_typed t.schema) _ _ typed

  -- a database for which the update stands, and what it makes of it
  abbrev pub Updates : Database → Reply → Type 0
  Updates new reply = IsUpdateTable db r new reply

  found_update : (u : Table) (s : Schema) (new : Database) (reply : Reply) → table_named db r.table ≡ Some u → u.schema ≡ s → By r db u s new reply → Updates new reply
  found_update u s new reply is same by =
      subst (λ o. IsUpdateIn db r o new reply) (sym is) (subst (λ z. By r db u z new reply) (sym same) by)

  pub changes : (told : CatalogAnswer) (reply : Reply) → Carried d told c → update_reply r told ≡ Some reply
      → (new : Database) × Updates new reply × StandsFor (catalog_after d moment c) (items d moment c f) new
  changes told reply (free, carried) told_is =
      let t = there (named c.tables r.table) free in
      let u = found_named f c.tables db.tables stands r.table t.0 t.1 in
      let ruling = sym (ruled t.0 t.1) ∙ sym (ap (change_ruling r.update) t.1) ∙ carried in (
        with_table db r.table (with_schema t.0 t.1 u.table),
        found_update u.table t.0.schema _ reply u.is u.that.schema (carried_by_schema r db u.table t.0.schema reply told told_is (index_fault t.0.schema r.update.index) refl ruling),
        now_stands t.0 t.1 u.table u.that,
      )

  missing : (told : CatalogAnswer) (reply : Reply) → named c.tables r.table ≡ None → told ≡ answer.NoTable → update_reply r told ≡ Some reply → Updates db reply
  missing told reply none told_none told_is =
      let same : reply ≡ Refused (refused_for.NoTable r.table) = some_parts reply _ (sym told_is ∙ ap (update_reply r) told_none) in
      subst (λ o. IsUpdateIn db r o db reply) (sym (absent_named f c.tables db.tables stands r.table none)) (λ i. (db, same i))

  pub unchanges : (told : CatalogAnswer) (reply : Reply) → Denied d told c → update_reply r told ≡ Some reply → Updates db reply
  unchanges told reply (inl why) told_is = let none = gone (named c.tables r.table) told why in missing told reply none.0 none.1 told_is
  unchanges told reply (inr (free, why)) told_is =
      let t = there (named c.tables r.table) free in
      let u = found_named f c.tables db.tables stands r.table t.0 t.1 in
      let ruling = sym (ruled t.0 t.1) ∙ sym (ap (change_ruling r.update) t.1) ∙ why in
      found_update u.table t.0.schema db reply u.is u.that.schema (refused_by_schema r db u.table t.0.schema reply told told_is (index_fault t.0.schema r.update.index) refl ruling)
