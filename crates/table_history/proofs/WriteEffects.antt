-- Each single write of a legal history does to a database that has the tables what the request does that states it.
use Rattle.std.specs.Prelude.{nat_eq, if◌then◌else◌}
use Rattle.std.specs.List.{AllByRecursion, AllZip, filter_map}
use Rattle.std.proofs.Common.{◌≡◌, ℕ, Bool, false, List, [], ◌∷◌, Option, None, Some, Ok, reverse, refl, sym, ap, subst, ◌∙◌}
use Rattle.attr_value.specs.Tree.{Attributes}
use Rattle.update_eval.specs.declared.fault.EvalFault.{EvalFault}
use Rattle.item_keys.specs.declared.key.Key.{Key}
use Rattle.item_keys.specs.ItemKey.{key_in, key_alone}
use Rattle.row_keys.specs.Keys.{row_key}
use Rattle.row_keys.specs.Rows.{with_item}
use Rattle.table_rows.proofs.SlotLists.{with_sorted}
use Rattle.table_request.specs.declared.request.Request.{Request}
use Rattle.table_request.specs.declared.request.Request.TheVariants as request
use Rattle.table_request.specs.declared.items.PutItem.{PutItem}
use Rattle.table_request.specs.declared.items.UpdateItem.{UpdateItem}
use Rattle.table_request.specs.declared.items.DeleteItem.{DeleteItem}
use Rattle.table_model.specs.declared.reply.Reply.{Reply}
use Rattle.table_model.specs.declared.reply.Reply.TheVariants.{Refused}
use Rattle.table_model.specs.declared.refusal.Refusal.TheVariants as refusal
use Rattle.table_model.specs.declared.refusal.Invalid as why
use Rattle.table_model.specs.declared.refusal.Invalid.TheVariants as invalid
use Rattle.table_model.specs.Outcome.{ItemOutcome, becomes, is_false, is_faulty, is_met, where_met, put_outcome, update_outcome, delete_outcome}
use Rattle.table_model.specs.Database.{Database, Table, table_named, with_row, in_table, at_key, unless}
use Rattle.table_model.specs.Effect.{IsEffect}
use Rattle.table_model.specs.Writes.{told_written, key_update, put_fault, shown_if, written, old_at, put_at, update_at, delete_at}
use Rattle.txn_core.specs.declared.message.Message.{Message}
use Rattle.txn_core.specs.declared.answer.Answer.{Answer}
use Rattle.txn_core.specs.declared.outcome.Outcome.TheVariants.{New, Unmet, Fails}
use Rattle.txn_core.specs.Protocol.{after}
use Rattle.txn_core.specs.Legal.{IsAnswer, IsLegal}
use Rattle.txn_core.specs.Laws.{catalog_by, item_by, IsSerialWrite}
use Rattle.txn_core.proofs.Exports.{newest, writes_are_serial}
use Rattle.cell_model.specs.declared.key.CellKey.{CellKey}
use Rattle.cell_model.specs.declared.catalog.Catalog.{Catalog}
use Rattle.cell_model.specs.declared.catalog.CatalogTable.{CatalogTable}
use Rattle.cell_model.specs.Actions.{ItemAction, act, action_outcome, outcome_of, outcome_in, stated_put, stated_update, stated_delete}
use Rattle.cell_model.specs.Catalogs.{named, numbered}
use Rattle.cell_model.specs.Keys.{same_key, table_of}
use Rattle.cell_model.specs.KeptCatalogs.{IsKept}
use Rattle.cell_model.specs.Service.{service}
use Rattle.cell_model.proofs.Lawful.{service_lawful}
use Rattle.cell_model.proofs.Numbers.{some_parts}
use Rattle.cell_model.proofs.Ties.{act_as_the_database}
use Rattle.table_history.specs.Entries.{TableMessage, TableAnswer, TableEvent}
use Rattle.table_history.specs.Standing.{IsTableOf, StandsFor}
use Rattle.table_history.specs.WriteEffects.{item_key, StatesWrite, told_by, write_reply, WritesAreEffects}
use Rattle.table_history.proofs.Found.{name_of_numbered}
use Rattle.table_history.proofs.KeptHistories.{catalogs_are_kept}
use Rattle.table_history.proofs.Listed.{untouched, changed_at}
use Rattle.table_history.proofs.Named.{Found, found_named}
use Rattle.table_history.proofs.Steps.{Stays, set_stands}

-- ---- a database whose table has another item

all_kept : (ts : List CatalogTable) → filter_map Some ts ≡ ts
all_kept [] = refl
all_kept (t ∷ ts) = ap (λ l. t ∷ l) (all_kept ts)

each_other : (P : CatalogTable → Type 0) (m : ℕ) → ((s : CatalogTable) → nat_eq s.number m ≡ false → P s) → (ts : List CatalogTable)
    → AllByRecursion (λ s. nat_eq s.number m ≡ false → P s) ts
each_other P m holds [] = tt
each_other P m holds (s ∷ ts) = (holds s, each_other P m holds ts)

module _ (c : Catalog) (was : IsKept c) (f g : CellKey → Option Attributes) (t : CatalogTable) (key : Key) (new : CellKey → Option Attributes)
    (is : (q : CellKey) → g q ≡ (if same_key (item_key t key) q then new q else f q)) (db : Database) (stands : StandsFor c f db) where
  abbrev changed : Table → Table
  changed table = record table { rows = with_item table.rows (row_key key) (new (item_key t key)) }

  its : (table : Table) → IsTableOf f t (t.schema.name, table) → IsTableOf g t (t.schema.name, changed table)
  its table that = record {
    name = refl;
    schema = that.schema;
    ordered = with_sorted table.rows (row_key key) (new (item_key t key)) that.ordered;
    rows = changed_at f g new (record { table = t.number; key = row_key key }) is t.number refl table.rows that.ordered that.rows;
  }

  pub changed_stands : (name : List ℕ) → named c.tables name ≡ Some t → (table : Table) → IsTableOf f t (t.schema.name, table)
      → StandsFor c g (with_row db name table (row_key key) (new (item_key t key)))
  changed_stands name found table that =
      subst (λ ts. AllZip (IsTableOf g) ts (with_row db name table (row_key key) (new (item_key t key))).tables) (all_kept c.tables)
      (set_stands f g Some t (λ s apart. refl) name t (changed table) refl refl (its table that) c.tables db.tables was.apart
      (each_other (Stays f g) t.number (λ s apart q. untouched f g new (record { table = t.number; key = row_key key }) is s.number apart q) c.tables) found stands)

-- ---- a write's outcome by its answer

new_outcome : (w : ItemOutcome) (new : Option Attributes) → outcome_of w ≡ New new → w ≡ becomes new
new_outcome (becomes item) new e = let same : item ≡ new = cc in ap becomes same
new_outcome is_false new e = absurd (cc)
new_outcome (is_faulty fault) new e = absurd (cc)

unmet_outcome : (w : ItemOutcome) → outcome_of w ≡ Unmet → w ≡ is_false
unmet_outcome (becomes item) e = absurd (cc)
unmet_outcome is_false e = refl
unmet_outcome (is_faulty fault) e = absurd (cc)

faulty_outcome : (w : ItemOutcome) (fault : EvalFault) → outcome_of w ≡ Fails fault → w ≡ is_faulty fault
faulty_outcome (becomes item) fault e = absurd (cc)
faulty_outcome is_false fault e = absurd (cc)
faulty_outcome (is_faulty other) fault e = let same : other ≡ fault = cc in ap is_faulty same

-- ---- an entry

module _ (n : ℕ) (es : List TableEvent) (legal : IsLegal (service n) es) (e : TableEvent) (db : Database) (stands : StandsFor (catalog_by (service n) es) (item_by (service n) es) db) where
  abbrev before : Catalog
  before = catalog_by (service n) es

  abbrev item : CellKey → Option Attributes
  item q = item_by (service n) es q

  abbrev entry : TableMessage → TableAnswer → TableEvent
  entry m a = record { pass = e.pass; cell = e.cell; message = m; answer = a; moment = e.moment }

  -- the database has the tables with the entry
  abbrev Now : ItemAction → TableAnswer → Database → Type 0
  Now action a new = StandsFor (catalog_by (service n) (entry (Message.Write action) a ∷ es)) (item_by (service n) (entry (Message.Write action) a ∷ es)) new

  module _ (t : CatalogTable) (found : numbered before.tables t.number ≡ Some t) (key : Key) (action : ItemAction) (on : action.key ≡ item_key t key) (table : Table)
      (is : table_named db t.schema.name ≡ Some table) (that : IsTableOf item t (t.schema.name, table))
      (w : ItemOutcome) (acts : action_outcome t.schema action (old_at table key) ≡ w)
      (fault : EvalFault → why.Invalid) (show_old : Bool) (tell : Option Attributes → Option Attributes → Reply) where
    old_is : item action.key ≡ old_at table key
    old_is = ap item on ∙ sym (that.rows (row_key key))

    -- what the action would make of each item
    abbrev makes : CellKey → Option Attributes
    makes q = after (act before action (item q)) (item q)

    outcome_is : (old : Option Attributes) → old ≡ old_at table key → act before action old ≡ outcome_of w
    outcome_is old same =
        ap (act before action) same
        ∙ ap (λ k. outcome_in (numbered before.tables (table_of k)) action (old_at table key)) on
        ∙ ap (λ o. outcome_in o action (old_at table key)) found
        ∙ ap outcome_of acts

    abbrev Does : TableAnswer → Reply → Type 0
    Does a reply =
        (new : Database) × ((new, reply) ≡ written db t.schema.name table key (shown_if show_old (old_at table key)) fault (tell (old_at table key)) w) × Now action a new

    does : (a : TableAnswer) (reply : Reply) → IsSerialWrite (service n) es action a → told_by fault show_old tell a ≡ Some reply → Does a reply
    does (Answer.Written old new) reply serial told =
        let same = serial.0 ∙ old_is in
        let w_is = new_outcome w new (sym (outcome_is old same) ∙ serial.1) in
        let reply_is : reply ≡ tell old new = some_parts reply _ (sym told) in
        let made : act before action (item action.key) ≡ New new = ap (act before action) (sym serial.0) ∙ serial.1 in
        let put : makes (item_key t key) ≡ new = ap makes (sym on) ∙ ap (λ o. after o (item action.key)) made in (
          with_row db t.schema.name table (row_key key) new,
          (λ i. (with_row db t.schema.name table (row_key key) new, (reply_is ∙ ap (λ o. tell o new) same) i))
              ∙ sym (ap (written db t.schema.name table key (shown_if show_old (old_at table key)) fault (tell (old_at table key))) w_is),
          subst (λ v. Now action (Answer.Written old new) (with_row db t.schema.name table (row_key key) v)) put
              (changed_stands before (catalogs_are_kept n es legal) item (λ q. item_by (service n) (entry (Message.Write action) (Answer.Written old new) ∷ es) q) t key
              makes (λ q. ap (λ k. if same_key k q then makes q else item q) on)
              db stands t.schema.name (name_of_numbered before.tables t.number t (catalogs_are_kept n es legal).ordered found) table that),
        )
    does (Answer.CondFalse old) reply serial told =
        let same = serial.0 ∙ old_is in
        let w_is = unmet_outcome w (sym (outcome_is old same) ∙ serial.1) in
        let reply_is : reply ≡ Refused (refusal.ConditionFailed (shown_if show_old old)) = some_parts reply _ (sym told) in (
          db,
          (λ i. (db, (reply_is ∙ ap (λ o. Refused (refusal.ConditionFailed (shown_if show_old o))) same) i))
              ∙ sym (ap (written db t.schema.name table key (shown_if show_old (old_at table key)) fault (tell (old_at table key))) w_is),
          stands,
        )
    does (Answer.Invalid failed) reply serial told =
        let w_is = faulty_outcome w failed (sym (outcome_is (item action.key) old_is) ∙ serial) in
        let reply_is : reply ≡ Refused (refusal.Invalid (fault failed)) = some_parts reply _ (sym told) in (
          db,
          (λ i. (db, reply_is i)) ∙ sym (ap (written db t.schema.name table key (shown_if show_old (old_at table key)) fault (tell (old_at table key))) w_is),
          stands,
        )
    does _ reply serial told = absurd (cc)

  -- ---- requests

  abbrev Did : Request → Reply → ItemAction → TableAnswer → Type 0
  Did asked reply action a = (new : Database) × IsEffect db asked e.moment new reply × Now action a new

  module _ (t : CatalogTable) (found : numbered before.tables t.number ≡ Some t) (key : Key) where
    -- the table in the database
    there : Found item db.tables t.schema.name t
    there = found_named item before.tables db.tables stands t.schema.name t (name_of_numbered before.tables t.number t (catalogs_are_kept n es legal).ordered found)

    abbrev table : Table
    table = there.table

    abbrev same_schema : table.schema ≡ t.schema
    same_schema = there.that.schema

    abbrev Serial : ItemAction → TableAnswer → Type 0
    Serial action a = IsSerialWrite (service n) es action a

    put : (r : PutItem) (a : TableAnswer) (reply : Reply) → t.schema.name ≡ r.table → key_in t.schema t.schema.keys r.item ≡ Ok key
        → Serial (stated_put (item_key t key) r) a → write_reply (request.PutItem r) a ≡ Some reply
        → Did (request.PutItem r) reply (stated_put (item_key t key) r) a
    put r a reply name its_key serial told =
        let w = where_met (is_met r.condition r.values (old_at table key)) (put_outcome t.schema r.item) in
        let done = does t found key (stated_put (item_key t key) r) refl table there.is there.that w (act_as_the_database.puts t.schema (item_key t key) r (old_at table key))
        put_fault r.show_old (told_written r.capacity r.table r.return_values None) a reply serial told in (
          done.0,
          done.1
              ∙ ap (λ x. written db x table key (shown_if r.show_old (old_at table key)) put_fault (told_written r.capacity r.table r.return_values None (old_at table key)) w) name
              ∙ ap (λ s. written db r.table table key (shown_if r.show_old (old_at table key)) put_fault (told_written r.capacity r.table r.return_values None (old_at table key)) (where_met (is_met r.condition r.values (old_at table key)) (put_outcome s r.item))) (sym same_schema)
              ∙ sym (ap (λ x. at_key db x (put_at db r table)) (ap (λ s. key_in s s.keys r.item) same_schema ∙ its_key))
              ∙ sym (ap (λ o. in_table db r.table o (λ z. at_key db (key_in z.schema z.schema.keys r.item) (put_at db r z))) (ap (table_named db) (sym name) ∙ there.is)),
          done.2,
        )

    update : (r : UpdateItem) (a : TableAnswer) (reply : Reply) → t.schema.name ≡ r.table → key_alone t.schema t.schema.keys r.key ≡ Ok key
        → key_update t.schema.keys r.update ≡ None → Serial (stated_update (item_key t key) r) a → write_reply (request.UpdateItem r) a ≡ Some reply
        → Did (request.UpdateItem r) reply (stated_update (item_key t key) r) a
    update r a reply name its_key free serial told =
        let old = old_at table key in
        let w = where_met (is_met r.condition r.values old) (update_outcome t.schema r.update r.values r.key old) in
        let done = does t found key (stated_update (item_key t key) r) refl table there.is there.that w (act_as_the_database.updates t.schema (item_key t key) r old)
        invalid.Evaluation r.show_old (told_written r.capacity r.table r.return_values r.update) a reply serial told in (
          done.0,
          done.1
              ∙ ap (λ x. written db x table key (shown_if r.show_old old) invalid.Evaluation (told_written r.capacity r.table r.return_values r.update old) w) name
              ∙ ap (λ s. written db r.table table key (shown_if r.show_old old) invalid.Evaluation (told_written r.capacity r.table r.return_values r.update old) (where_met (is_met r.condition r.values old) (update_outcome s r.update r.values r.key old))) (sym same_schema)
              ∙ sym (ap (λ o. unless db o (update_at db r table key)) (ap (λ s. key_update s.keys r.update) same_schema ∙ free))
              ∙ sym (ap (λ x. at_key db x (λ k. unless db (key_update table.schema.keys r.update) (update_at db r table k))) (ap (λ s. key_alone s s.keys r.key) same_schema ∙ its_key))
              ∙ sym (ap (λ o. in_table db r.table o (λ z. at_key db (key_alone z.schema z.schema.keys r.key) (λ k. unless db (key_update z.schema.keys r.update) (update_at db r z k)))) (ap (table_named db) (sym name) ∙ there.is)),
          done.2,
        )

    delete : (r : DeleteItem) (a : TableAnswer) (reply : Reply) → t.schema.name ≡ r.table → key_alone t.schema t.schema.keys r.key ≡ Ok key
        → Serial (stated_delete (item_key t key) r) a → write_reply (request.DeleteItem r) a ≡ Some reply
        → Did (request.DeleteItem r) reply (stated_delete (item_key t key) r) a
    delete r a reply name its_key serial told =
        let old = old_at table key in
        let w = where_met (is_met r.condition r.values old) delete_outcome in
        let done = does t found key (stated_delete (item_key t key) r) refl table there.is there.that w (act_as_the_database.deletes t.schema (item_key t key) r old)
        invalid.Evaluation r.show_old (told_written r.capacity r.table r.return_values None) a reply serial told in (
          done.0,
          done.1
              ∙ ap (λ x. written db x table key (shown_if r.show_old old) invalid.Evaluation (told_written r.capacity r.table r.return_values None old) w) name
              ∙ sym (ap (λ x. at_key db x (delete_at db r table)) (ap (λ s. key_alone s s.keys r.key) same_schema ∙ its_key))
              ∙ sym (ap (λ o. in_table db r.table o (λ z. at_key db (key_alone z.schema z.schema.keys r.key) (delete_at db r z))) (ap (table_named db) (sym name) ∙ there.is)),
          done.2,
        )

    -- the action of a request
    as_stated : (asked : Request) (reply : Reply) (a : TableAnswer) (own action : ItemAction) → action ≡ own → Serial action a
        → (Serial own a → Did asked reply own a) → Did asked reply action a
    as_stated asked reply a own action same serial did = subst (λ x. Did asked reply x a) (sym same) (did (subst (λ x. Serial x a) same serial))

    by_request : (asked : Request) (action : ItemAction) → StatesWrite asked t key action → (a : TableAnswer) (reply : Reply) → Serial action a
        → write_reply asked a ≡ Some reply → Did asked reply action a
    by_request (request.PutItem r) action states a reply serial told =
        as_stated (request.PutItem r) reply a (stated_put (item_key t key) r) action states.2 serial (λ own. put r a reply states.0 states.1 own told)
    by_request (request.UpdateItem r) action states a reply serial told =
        as_stated (request.UpdateItem r) reply a (stated_update (item_key t key) r) action states.3 serial (λ own. update r a reply states.0 states.1 states.2 own told)
    by_request (request.DeleteItem r) action states a reply serial told =
        as_stated (request.DeleteItem r) reply a (stated_delete (item_key t key) r) action states.2 serial (λ own. delete r a reply states.0 states.1 own told)
    by_request _ action states a reply serial told = absurd states

pub writes_are_effects : (n : ℕ) → WritesAreEffects n
writes_are_effects n log e legal t found request key action states asked reply told db stands =
    let es = reverse log in
    let now = subst (IsLegal (service n)) (newest log e) legal in
    let is = subst (λ m. IsAnswer (service n) es e.moment m e.answer) asked now.1.answer in
    let serial = writes_are_serial (service n) (service_lawful n) es now.0 e.moment action e.answer is in
    let did = by_request n es now.0 e db stands t found key request action states e.answer reply serial told in
    let all = subst (λ m. StandsFor (catalog_by (service n) (entry n es now.0 e db stands m e.answer ∷ es)) (item_by (service n) (entry n es now.0 e db stands m e.answer ∷ es)) did.0) (sym asked) did.2 in
    record {
      new = did.0;
      effect = did.1;
      tables = subst (λ rest. StandsFor (catalog_by (service n) rest) (item_by (service n) rest) did.0) (sym (newest log e)) all;
    }
