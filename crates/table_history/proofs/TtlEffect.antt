-- A TimeToLive that is carried out makes of its table what the UpdateTimeToLive does that states it, and one that is refused nothing.
use Rattle.std.specs.Prelude.{nat_eq}
use Rattle.std.proofs.Common.{◌≡◌, ℕ, true, false, Option, None, Some, is_some, option_map, option_and_then, refl, sym, ap, ◌∙◌, inl, inr}
use Rattle.std.proofs.lemmas.Bool.{cond-true, cond-false}
use Rattle.attr_value.specs.Tree.{Attributes}
use Rattle.table_schema.specs.declared.schema.Schema.{Schema}
use Rattle.table_request.specs.declared.time_to_live.UpdateTimeToLive.{UpdateTimeToLive}
use Rattle.table_model.specs.declared.reply.Reply.{Reply}
use Rattle.table_model.specs.declared.reply.Reply.TheVariants.{Refused, TimeToLiveSet}
use Rattle.table_model.specs.declared.refusal.Refusal.TheVariants as refused_for
use Rattle.table_model.specs.declared.refusal.Invalid.TheVariants as invalid
use Rattle.table_model.specs.declared.refusal.TtlFault.{TtlFault}
use Rattle.table_model.specs.Catalog.{ttl_fault, ttl_refusal, with_ttl, update_time_to_live}
use Rattle.table_model.specs.Database.{Database, Table, Effect, in_table, table_named, unless, with_table}
use Rattle.txn_core.specs.declared.ruling.Ruling.TheVariants.{Carries, Refuses}
use Rattle.cell_model.specs.declared.key.CellKey.{CellKey}
use Rattle.cell_model.specs.declared.catalog.Catalog.{Catalog}
use Rattle.cell_model.specs.declared.catalog.CatalogTable.{CatalogTable}
use Rattle.cell_model.specs.declared.command.CatalogCommand.{CatalogCommand}
use Rattle.cell_model.specs.declared.command.CatalogCommand.TheVariants.{TimeToLive}
use Rattle.cell_model.specs.declared.answer.CatalogAnswer.{CatalogAnswer}
use Rattle.cell_model.specs.declared.answer.CatalogAnswer.TheVariants as answer
use Rattle.cell_model.specs.Catalogs.{named, numbered, has_table, last_drawn}
use Rattle.cell_model.specs.Commands.{subject, is_number, expiring, expiring_table, ttl_judged, ttl_ruling, kept, catalog_after}
use Rattle.cell_model.specs.KeptCatalogs.{IsKept}
use Rattle.cell_model.proofs.Lookups.{kept_found}
use Rattle.cell_model.proofs.Making.{each_weaker}
use Rattle.cell_model.proofs.Numbers.{some_parts}
use Rattle.table_history.specs.Standing.{IsTableOf, StandsFor}
use Rattle.table_history.specs.CommandEffects.{ttl_reply}
use Rattle.table_history.proofs.Carried.{Carried, Denied}
use Rattle.table_history.proofs.Altered.{turned, itself, gone, items, others_stay, items_stay}
use Rattle.table_history.proofs.Found.{number_of_named, table_found}
use Rattle.table_history.proofs.Named.{absent_named, found_named}
use Rattle.table_history.proofs.Steps.{Stays, set_stands}
use Rattle.table_history.proofs.UpdateEffect.{there}

carried_out : (o : Option TtlFault) (s : Schema) (told : CatalogAnswer) → ttl_judged s o ≡ Carries told → (o ≡ None) × (told ≡ answer.Changed s)
carried_out None s told e = (refl, let same : told ≡ answer.Changed s = cc in same)
carried_out (Some fault) s told e = absurd (cc)

not_carried : (o : Option TtlFault) (s : Schema) (told : CatalogAnswer) → ttl_judged s o ≡ Refuses told
    → (fault : TtlFault) × (o ≡ Some fault) × (told ≡ answer.TtlRefused fault)
not_carried None s told e = absurd (cc)
not_carried (Some fault) s told e = (fault, refl, let same : told ≡ answer.TtlRefused fault = cc in same)

module _ (r : UpdateTimeToLive) (moment : ℕ) (c : Catalog) (was : IsKept c) (f : CellKey → Option Attributes) (db : Database) (stands : StandsFor c f db) where
  abbrev d : CatalogCommand
  d = TimeToLive r.table r.name r.enabled

  -- the table with the time to live, and what the sequential database makes of one
  abbrev with_stated : Table → Table
  with_stated table = record table { schema = with_ttl table.schema r }

  abbrev made : Table → Effect
  made table = unless db (ttl_refusal table.schema r) (with_table db r.table (with_stated table), TimeToLiveSet r.name r.enabled)

  made_by : (table : Table) (s : Schema) (o : Option TtlFault) → table.schema ≡ s → ttl_fault s.ttl r.name r.enabled ≡ o
      → made table ≡ unless db (option_map (λ fault. refused_for.Invalid (invalid.TimeToLive fault)) o)
      (with_table db r.table (with_stated table), TimeToLiveSet r.name r.enabled)
  made_by table s o same is =
      ap (λ z. unless db (option_map (λ fault. refused_for.Invalid (invalid.TimeToLive fault)) z) (with_table db r.table (with_stated table), TimeToLiveSet r.name r.enabled))
      (ap (λ (z : Schema). ttl_fault z.ttl r.name r.enabled) same ∙ is)

  module _ (t : CatalogTable) (named_t : named c.tables r.table ≡ Some t) where
    abbrev left : CatalogTable → Option CatalogTable
    left = kept d (subject d c) (last_drawn c)

    abbrev now : CatalogTable
    now = expiring_table r.name r.enabled t

    on : (s : CatalogTable) → is_number (subject d c) s.number ≡ nat_eq t.number s.number
    on s = ap (λ o. is_number (option_map (λ (z : CatalogTable). z.number) o) s.number) named_t

    becomes : left t ≡ Some now
    becomes = cond-true (is_number (subject d c) t.number) (Some now) (Some t) (on t ∙ itself t.number)

    others : (s : CatalogTable) → nat_eq s.number t.number ≡ false → left s ≡ Some s
    others s apart = cond-false (is_number (subject d c) s.number) _ (Some s) (on s ∙ turned s.number t.number false apart)

    numbered_t : numbered c.tables t.number ≡ Some t
    numbered_t = number_of_named c.tables r.table t was.apart named_t

    still_there : has_table (catalog_after d moment c) t.number ≡ true
    still_there =
        ap is_some (kept_found d (subject d c) (last_drawn c) t.number c.tables ∙ ap (option_and_then left) numbered_t ∙ becomes)

    its_items : Stays f (items d moment c f) t
    its_items = table_found (λ z. has_table (catalog_after d moment c) z.number ≡ true → Stays f (items d moment c f) z) c.tables t.number t (items_stay d moment c f) numbered_t still_there

    its : (table : Table) → IsTableOf f t (t.schema.name, table) → IsTableOf (items d moment c f) now (now.schema.name, with_stated table)
    its table that = record {
      name = refl;
      schema = ap (λ s. with_ttl s r) that.schema;
      ordered = that.ordered;
      rows = λ key. that.rows key ∙ sym (its_items key);
    }

    pub now_stands : (table : Table) → IsTableOf f t (t.schema.name, table) → StandsFor (catalog_after d moment c) (items d moment c f) (with_table db r.table (with_stated table))
    now_stands table that =
        set_stands f (items d moment c f) left t others r.table now (with_stated table) becomes refl (its table that) c.tables db.tables was.apart
        (each_weaker (λ s stays apart. stays (on s ∙ turned s.number t.number false apart)) c.tables (others_stay d moment c f)) named_t stands

  -- what the request does to a table that is there
  in_found : (table : Table) → table_named db r.table ≡ Some table → made table ≡ update_time_to_live db r
  in_found table is = sym (ap (λ o. in_table db r.table o made) is)

  pub expires : (told : CatalogAnswer) (reply : Reply) → Carried d told c → ttl_reply r told ≡ Some reply
      → (new : Database) × ((new, reply) ≡ update_time_to_live db r) × StandsFor (catalog_after d moment c) (items d moment c f) new
  expires told reply (free, carried) told_is =
      let t = there (named c.tables r.table) free in
      let u = found_named f c.tables db.tables stands r.table t.0 t.1 in
      let done = carried_out (ttl_fault t.0.schema.ttl r.name r.enabled) (expiring t.0.schema r.name r.enabled) told (sym (ap (ttl_ruling r.name r.enabled) t.1) ∙ carried) in
      let is : reply ≡ TimeToLiveSet r.name r.enabled = some_parts reply _ (sym told_is ∙ ap (ttl_reply r) done.1) in (
        with_table db r.table (with_stated u.table),
        (λ i. (with_table db r.table (with_stated u.table), is i)) ∙ sym (made_by u.table t.0.schema None u.that.schema done.0) ∙ in_found u.table u.is,
        now_stands t.0 t.1 u.table u.that,
      )

  missing : (told : CatalogAnswer) (reply : Reply) → named c.tables r.table ≡ None → told ≡ answer.NoTable → ttl_reply r told ≡ Some reply
      → (db, reply) ≡ update_time_to_live db r
  missing told reply none told_none told_is =
      let is : reply ≡ Refused (refused_for.NoTable r.table) = some_parts reply _ (sym told_is ∙ ap (ttl_reply r) told_none) in
      (λ i. (db, is i)) ∙ sym (ap (λ o. in_table db r.table o made) (absent_named f c.tables db.tables stands r.table none))

  pub unexpires : (told : CatalogAnswer) (reply : Reply) → Denied d told c → ttl_reply r told ≡ Some reply → (db, reply) ≡ update_time_to_live db r
  unexpires told reply (inl why) told_is = let none = gone (named c.tables r.table) told why in missing told reply none.0 none.1 told_is
  unexpires told reply (inr (free, why)) told_is =
      let t = there (named c.tables r.table) free in
      let u = found_named f c.tables db.tables stands r.table t.0 t.1 in
      let done = not_carried (ttl_fault t.0.schema.ttl r.name r.enabled) (expiring t.0.schema r.name r.enabled) told (sym (ap (ttl_ruling r.name r.enabled) t.1) ∙ why) in
      let is : reply ≡ Refused (refused_for.Invalid (invalid.TimeToLive done.0)) = some_parts reply _ (sym told_is ∙ ap (ttl_reply r) done.2) in
      (λ i. (db, is i)) ∙ sym (made_by u.table t.0.schema (Some done.0) u.that.schema done.1) ∙ in_found u.table u.is
