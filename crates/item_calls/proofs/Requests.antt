-- What requests on one item are refused for by a schema, and which writes they state by it.
use Rattle.std.proofs.Common.{◌≡◌, ℕ, List, Bool, true, false, Option, None, Some, Result, Ok, Err, refl, sym, ap, ◌∙◌, inl, inr}
use Rattle.std.specs.Prelude.{option_map}
use Rattle.expr_parse.specs.declared.tree.Update.{Update}
use Rattle.update_eval.specs.declared.fault.EvalFault.{EvalFault}
use Rattle.item_keys.specs.declared.key.Key.{Key}
use Rattle.item_keys.specs.ItemKey.{key_in, key_alone}
use Rattle.row_keys.specs.declared.row_key.RowKey.{RowKey}
use Rattle.table_schema.specs.declared.schema.Schema.{Schema}
use Rattle.table_request.specs.declared.request.Request.{Request}
use Rattle.table_request.specs.declared.request.Request.TheVariants as request
use Rattle.table_request.specs.declared.items.ReturnValues.{ReturnValues}
use Rattle.table_request.specs.declared.items.GetItem.{GetItem}
use Rattle.table_request.specs.declared.items.PutItem.{PutItem}
use Rattle.table_request.specs.declared.items.UpdateItem.{UpdateItem}
use Rattle.table_request.specs.declared.items.DeleteItem.{DeleteItem}
use Rattle.table_model.specs.declared.reply.Reply.{Reply}
use Rattle.table_model.specs.declared.reply.Reply.TheVariants.{Refused, Written}
use Rattle.table_model.specs.declared.refusal.Refusal.TheVariants as refusal
use Rattle.table_model.specs.declared.refusal.Invalid.{Invalid}
use Rattle.table_model.specs.declared.refusal.Invalid.TheVariants as invalid
use Rattle.table_model.specs.Database.{Database, Table, Effect, table_named, refused, in_table, at_key, unless}
use Rattle.table_model.specs.Effect.{IsEffect}
use Rattle.table_model.specs.Reads.{told_read}
use Rattle.table_model.specs.Writes.{touched_key, key_update, old_at, put_at, update_at, delete_at, told_written, used_by_write, put_fault}
use Rattle.table_items.specs.Outcomes.{row_key_if}
use Rattle.txn_core.specs.declared.answer.Answer.{Answer}
use Rattle.cell_model.specs.declared.catalog.CatalogTable.{CatalogTable}
use Rattle.cell_model.specs.declared.key.CellKey.{CellKey}
use Rattle.cell_model.specs.Actions.{ItemAction, stated_put, stated_update, stated_delete}
use Rattle.table_history.specs.Entries.{TableAnswer}
use Rattle.table_history.specs.SameTable.{IsOfThatTable}
use Rattle.table_history.specs.WriteEffects.{StatesWrite, told_by, write_reply}
use Rattle.item_calls.specs.Places.{row_at, unless_touched, item_at}
use Rattle.item_calls.specs.Answers.{ShowAlike}
use Rattle.item_calls.specs.Items.{table_asked}
use Rattle.cell_asks.proofs.SameKeys.{same_key_in, same_key_alone}
use Rattle.item_calls.proofs.Places.{key_behind, fault_behind, key_unless, fault_unless}

-- without its table, and for its row, the request is refused so by every database
pub record IsRefusedFor (asked : Request) (rows : Schema → Result RowKey Invalid) : Type 0 where
  pub absent : (db : Database) (moment : ℕ) → table_named db (table_asked asked) ≡ None → IsEffect db asked moment db (Refused (refusal.NoTable (table_asked asked)))
  pub faulty : (db : Database) (moment : ℕ) (table : Table) → table_named db (table_asked asked) ≡ Some table → (why : Invalid) → rows table.schema ≡ Err why
      → IsEffect db asked moment db (Refused (refusal.Invalid why))

-- the answers to which a write replies as the database does
abbrev pub is_told : TableAnswer → Bool
is_told (Answer.Written old new) = true
is_told (Answer.CondFalse old) = true
is_told (Answer.Invalid fault) = true
is_told _ = false

-- the request states this action for its row, and replies to what it is answered
pub record StatesAt (asked : Request) (rows : Schema → Result RowKey Invalid) (act : CellKey → ItemAction) : Type 0 where
  pub on : (key : CellKey) → (act key).key ≡ key
  pub states : (old : Schema) (table : CatalogTable) → IsOfThatTable old table.schema → table.schema.name ≡ table_asked asked
      → (row : RowKey) → rows old ≡ Ok row → (key : Key) × StatesWrite asked table key (act (item_at table.number row))
  pub replies : (a : TableAnswer) → is_told a ≡ true → (reply : Reply) × (write_reply asked a ≡ Some reply)

-- ---- reads

abbrev pub read_rows : GetItem → Schema → Result RowKey Invalid
read_rows r schema = row_at (row_key_if (key_alone schema schema.keys r.key))

abbrev pub read_within : GetItem → Database → Table → Effect
read_within r db table = at_key db (key_alone table.schema table.schema.keys r.key) (λ key. (db, told_read r (old_at table key)))

pub read_refused : (r : GetItem) → IsRefusedFor (request.GetItem r) (read_rows r)
read_refused r = record {
  absent = λ db moment none. sym (ap (λ o. in_table db r.table o (read_within r db)) none);
  faulty = λ db moment table is why bad.
      let f = fault_behind (key_alone table.schema table.schema.keys r.key) why bad in
      sym (ap (λ o. in_table db r.table o (read_within r db)) is ∙ ap (λ k. at_key db k (λ key. (db, told_read r (old_at table key)))) f.is
      ∙ ap (λ x. refused db (refusal.Invalid x)) f.why_is);
}

-- ---- puts

abbrev pub put_rows : PutItem → Schema → Result RowKey Invalid
put_rows r schema = row_at (row_key_if (key_in schema schema.keys r.item))

abbrev pub put_within : PutItem → Database → Table → Effect
put_within r db table = at_key db (key_in table.schema table.schema.keys r.item) (put_at db r table)

pub put_refused : (r : PutItem) → IsRefusedFor (request.PutItem r) (put_rows r)
put_refused r = record {
  absent = λ db moment none. sym (ap (λ o. in_table db r.table o (put_within r db)) none);
  faulty = λ db moment table is why bad.
      let f = fault_behind (key_in table.schema table.schema.keys r.item) why bad in
      sym (ap (λ o. in_table db r.table o (put_within r db)) is ∙ ap (λ k. at_key db k (put_at db r table)) f.is ∙ ap (λ x. refused db (refusal.Invalid x)) f.why_is);
}

pub put_states : (r : PutItem) → StatesAt (request.PutItem r) (put_rows r) (λ key. stated_put key r)
put_states r = record {
  on = λ key. refl;
  states = λ old table that name row is.
      let k = key_behind (key_in old old.keys r.item) row is in
      (k.key, (name, same_key_in old table.schema that r.item ∙ k.is, λ i. stated_put (item_at table.number (sym k.row_is i)) r));
  replies = replies;
}
  where
    replies : (a : TableAnswer) → is_told a ≡ true → (reply : Reply) × (write_reply (request.PutItem r) a ≡ Some reply)
    replies (Answer.Written old new) h = (_, refl)
    replies (Answer.CondFalse old) h = (_, refl)
    replies (Answer.Invalid fault) h = (_, refl)
    replies _ h = absurd (cc)

-- ---- updates

abbrev pub rows_with : UpdateItem → Option Update → Schema → Result RowKey Invalid
rows_with r update schema = unless_touched schema.keys update (row_key_if (key_alone schema schema.keys r.key))

abbrev pub update_rows : UpdateItem → Schema → Result RowKey Invalid
update_rows r schema = rows_with r r.update schema

abbrev pub update_unless : UpdateItem → Database → Table → Key → Effect
update_unless r db table key = unless db (key_update table.schema.keys r.update) (update_at db r table key)

abbrev pub update_within : UpdateItem → Database → Table → Effect
update_within r db table = at_key db (key_alone table.schema table.schema.keys r.key) (update_unless r db table)

pub update_refused : (r : UpdateItem) → IsRefusedFor (request.UpdateItem r) (update_rows r)
update_refused r = record {
  absent = λ db moment none. sym (ap (λ o. in_table db r.table o (update_within r db)) none);
  faulty = λ db moment table is why bad. sym (ap (λ o. in_table db r.table o (update_within r db)) is ∙ at_row db table why bad);
}
  where
    at_row : (db : Database) (table : Table) (why : Invalid) → update_rows r table.schema ≡ Err why → update_within r db table ≡ refused db (refusal.Invalid why)
    at_row db table why bad =
        elim (fault_unless (key_alone table.schema table.schema.keys r.key) (touched_key table.schema.keys r.update) why bad) [
          | inl f ↦ ap (λ k. at_key db k (update_unless r db table)) f.is ∙ ap (λ x. refused db (refusal.Invalid x)) f.why_is
          | inr t ↦
              ap (λ k. at_key db k (update_unless r db table)) t.is
              ∙ ap (λ o. unless db (option_map (λ name. refusal.Invalid (invalid.UpdateOfKey name)) o) (update_at db r table t.key)) t.touched_is
              ∙ ap (λ x. refused db (refusal.Invalid x)) t.why_is
        ]

pub update_states : (r : UpdateItem) → StatesAt (request.UpdateItem r) (update_rows r) (λ key. stated_update key r)
update_states r = record {
  on = λ key. refl;
  states = λ old table that name row is.
      let u = key_unless (key_alone old old.keys r.key) (touched_key old.keys r.update) row is in
      let k = u.has in (
        k.key,
        (
          name,
          same_key_alone old table.schema that r.key ∙ k.is,
          ap (option_map (λ name. refusal.Invalid (invalid.UpdateOfKey name))) (ap (λ keys. touched_key keys r.update) that.keys ∙ u.none),
          λ i. stated_update (item_at table.number (sym k.row_is i)) r,
        ),
      );
  replies = replies;
}
  where
    replies : (a : TableAnswer) → is_told a ≡ true → (reply : Reply) × (write_reply (request.UpdateItem r) a ≡ Some reply)
    replies (Answer.Written old new) h = (_, refl)
    replies (Answer.CondFalse old) h = (_, refl)
    replies (Answer.Invalid fault) h = (_, refl)
    replies _ h = absurd (cc)

-- by what of the update shows the same
pub update_replies : (r : UpdateItem) (kept : Option Update) → ShowAlike r.return_values kept r.update
    → (a : TableAnswer) → told_by invalid.Evaluation r.show_old (told_written r.capacity r.table r.return_values kept) a ≡ write_reply (request.UpdateItem r) a
update_replies r kept alike (Answer.Written old new) = ap (λ item. Some (Written item (used_by_write r.capacity r.table old new))) (alike old new)
update_replies r kept alike _ = refl

-- ---- deletes

abbrev pub delete_rows : DeleteItem → Schema → Result RowKey Invalid
delete_rows r schema = row_at (row_key_if (key_alone schema schema.keys r.key))

abbrev pub delete_within : DeleteItem → Database → Table → Effect
delete_within r db table = at_key db (key_alone table.schema table.schema.keys r.key) (delete_at db r table)

pub delete_refused : (r : DeleteItem) → IsRefusedFor (request.DeleteItem r) (delete_rows r)
delete_refused r = record {
  absent = λ db moment none. sym (ap (λ o. in_table db r.table o (delete_within r db)) none);
  faulty = λ db moment table is why bad.
      let f = fault_behind (key_alone table.schema table.schema.keys r.key) why bad in
      sym (ap (λ o. in_table db r.table o (delete_within r db)) is ∙ ap (λ k. at_key db k (delete_at db r table)) f.is ∙ ap (λ x. refused db (refusal.Invalid x)) f.why_is);
}

pub delete_states : (r : DeleteItem) → StatesAt (request.DeleteItem r) (delete_rows r) (λ key. stated_delete key r)
delete_states r = record {
  on = λ key. refl;
  states = λ old table that name row is.
      let k = key_behind (key_alone old old.keys r.key) row is in
      (k.key, (name, same_key_alone old table.schema that r.key ∙ k.is, λ i. stated_delete (item_at table.number (sym k.row_is i)) r));
  replies = replies;
}
  where
    replies : (a : TableAnswer) → is_told a ≡ true → (reply : Reply) × (write_reply (request.DeleteItem r) a ≡ Some reply)
    replies (Answer.Written old new) h = (_, refl)
    replies (Answer.CondFalse old) h = (_, refl)
    replies (Answer.Invalid fault) h = (_, refl)
    replies _ h = absurd (cc)

-- ---- no conflict is told by an answer to which a write replies as the database does

told_by_update : (fault : EvalFault → Invalid) (show_old : Bool) (capacity : Bool) (table : List ℕ) (show : ReturnValues) (update : Option Update)
    (a : TableAnswer) (number : ℕ) → told_by fault show_old (told_written capacity table show update) a ≡ Some (Refused (refusal.Conflict number)) → ⊥
told_by_update fault show_old capacity table show update (Answer.Written old new) number told = cc
told_by_update fault show_old capacity table show update (Answer.CondFalse old) number told = cc
told_by_update fault show_old capacity table show update (Answer.Invalid found) number told = cc
told_by_update fault show_old capacity table show update _ number told = cc

pub no_conflict : (asked : Request) (a : TableAnswer) (number : ℕ) → write_reply asked a ≡ Some (Refused (refusal.Conflict number)) → ⊥
no_conflict (request.PutItem r) a number told = told_by_update put_fault r.show_old r.capacity r.table r.return_values None a number told
no_conflict (request.UpdateItem r) a number told = told_by_update invalid.Evaluation r.show_old r.capacity r.table r.return_values r.update a number told
no_conflict (request.DeleteItem r) a number told = told_by_update invalid.Evaluation r.show_old r.capacity r.table r.return_values None a number told
no_conflict _ a number told = cc
