-- An expiration removes the row of its key, which was expired.
use Rattle.std.specs.Prelude.{◌/◌, if◌then◌else◌}
use Rattle.std.proofs.Common.{◌≡◌, ℕ, true, List, ◌∷◌, Option, None, Some, reverse, sym, ap, subst, ◌∙◌}
use Rattle.attr_value.specs.Tree.{Attributes}
use Rattle.table_schema.specs.declared.schema.Schema.{Schema}
use Rattle.item_keys.specs.declared.key.Key.{Key}
use Rattle.row_keys.specs.Expiry.{is_expired}
use Rattle.row_keys.specs.Keys.{row_key}
use Rattle.row_keys.specs.Rows.{item_at}
use Rattle.table_model.specs.Database.{Database, with_row}
use Rattle.txn_core.specs.declared.message.Message.{Message}
use Rattle.txn_core.specs.declared.answer.Answer.{Answer}
use Rattle.txn_core.specs.Protocol.{after}
use Rattle.txn_core.specs.Legal.{IsAnswer, IsLegal}
use Rattle.txn_core.specs.Laws.{catalog_by, item_by, IsSerialExpiration}
use Rattle.txn_core.proofs.Exports.{newest, expirations_are_serial}
use Rattle.cell_model.specs.declared.key.CellKey.{CellKey}
use Rattle.cell_model.specs.declared.catalog.Catalog.{Catalog}
use Rattle.cell_model.specs.declared.catalog.CatalogTable.{CatalogTable}
use Rattle.cell_model.specs.Actions.{ItemAction, act}
use Rattle.cell_model.specs.Catalogs.{numbered}
use Rattle.cell_model.specs.Expiry.{expires_in}
use Rattle.cell_model.specs.Keys.{same_key, table_of}
use Rattle.cell_model.specs.Service.{service}
use Rattle.cell_model.proofs.Lawful.{service_lawful}
use Rattle.table_history.specs.Entries.{TableMessage, TableAnswer, TableEvent}
use Rattle.table_history.specs.Expirations.{ExpirationsRemoveRows}
use Rattle.table_history.specs.Standing.{StandsFor}
use Rattle.table_history.specs.WriteEffects.{item_key}
use Rattle.table_history.proofs.Found.{name_of_numbered}
use Rattle.table_history.proofs.KeptHistories.{catalogs_are_kept}
use Rattle.table_history.proofs.Named.{Found, found_named}
use Rattle.table_history.proofs.WriteEffects.{changed_stands}

module _ (n : ℕ) (es : List TableEvent) (legal : IsLegal (service n) es) (e : TableEvent) (db : Database) (stands : StandsFor (catalog_by (service n) es) (item_by (service n) es) db) where
  abbrev before : Catalog
  before = catalog_by (service n) es

  abbrev item : CellKey → Option Attributes
  item q = item_by (service n) es q

  -- the entry with another message and answer
  abbrev entry : TableMessage → TableAnswer → TableEvent
  entry m a = record { pass = e.pass; cell = e.cell; message = m; answer = a; moment = e.moment }

  module _ (t : CatalogTable) (found : numbered before.tables t.number ≡ Some t) (key : Key) (action : ItemAction) (on : action.key ≡ item_key t key) (old : Attributes)
      (said : IsSerialExpiration (service n) es e.moment action (Answer.Expired old)) where
    abbrev named_so : Found item db.tables t.schema.name t
    named_so = found_named item before.tables db.tables stands t.schema.name t (name_of_numbered before.tables t.number t (catalogs_are_kept n es legal).ordered found)

    abbrev makes : CellKey → Option Attributes
    makes q = after (act before action (item q)) (item q)

    there : item_at named_so.table.rows (row_key key) ≡ Some old
    there = named_so.that.rows (row_key key) ∙ sym (ap item on) ∙ said.0

    past : is_expired named_so.table.schema.ttl old (e.moment / 1000000) ≡ true
    past =
        ap (λ (s : Schema). is_expired s.ttl old (e.moment / 1000000)) named_so.that.schema
        ∙ sym (ap (λ o. expires_in o old e.moment) found)
        ∙ sym (ap (λ k. expires_in (numbered before.tables (table_of k)) old e.moment) on)
        ∙ said.1

    -- what it makes of the item: none
    gone : makes (item_key t key) ≡ None
    gone = ap makes (sym on) ∙ ap (λ o. after o (item action.key)) (ap (act before action) said.0 ∙ said.2)

    abbrev Now : Database → Type 0
    Now new = StandsFor (catalog_by (service n) (entry (Message.Expire action) (Answer.Expired old) ∷ es))
        (item_by (service n) (entry (Message.Expire action) (Answer.Expired old) ∷ es)) new

    left : Now (with_row db t.schema.name named_so.table (row_key key) None)
    left =
        subst (λ v. Now (with_row db t.schema.name named_so.table (row_key key) v)) gone
        (changed_stands before (catalogs_are_kept n es legal) item (λ q. item_by (service n) (entry (Message.Expire action) (Answer.Expired old) ∷ es) q) t key
        makes (λ q. ap (λ k. if same_key k q then makes q else item q) on)
        db stands t.schema.name (name_of_numbered before.tables t.number t (catalogs_are_kept n es legal).ordered found) named_so.table named_so.that)

pub expirations_remove_rows : (n : ℕ) → ExpirationsRemoveRows n
expirations_remove_rows n log e legal t found key action on asked old answered db stands =
    let es = reverse log in
    let now = subst (IsLegal (service n)) (newest log e) legal in
    let is = subst (λ a. IsAnswer (service n) es e.moment (Message.Expire action) a) answered (subst (λ m. IsAnswer (service n) es e.moment m e.answer) asked now.1.answer) in
    let said = expirations_are_serial (service n) (service_lawful n) es now.0 e.moment action (Answer.Expired old) is in
    let same : (λ (m : TableMessage) (a : TableAnswer). entry n es now.0 e db stands m a) (Message.Expire action) (Answer.Expired old) ≡ e =
    (λ i. entry n es now.0 e db stands (sym asked i) (sym answered i)) in
    record {
      table = (named_so n es now.0 e db stands t found key action on old said).table;
      named = (named_so n es now.0 e db stands t found key action on old said).is;
      was = there n es now.0 e db stands t found key action on old said;
      past = past n es now.0 e db stands t found key action on old said;
      left = subst (λ all. StandsFor (catalog_by (service n) all) (item_by (service n) all)
          (with_row db t.schema.name (named_so n es now.0 e db stands t found key action on old said).table (row_key key) None))
          (ap (λ x. x ∷ es) same ∙ sym (newest log e)) (left n es now.0 e db stands t found key action on old said);
    }
