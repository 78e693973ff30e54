-- Each request: its step in the table is its effect.
use Rattle.std.proofs.Common.{◌≡◌, ℕ, List, [], ◌∷◌, ◌++◌, Option, None, Some, Result, Ok, Err, ap, sym, ◌∙◌, subst}
use Rattle.attr_value.specs.Tree.{Attributes}
use Rattle.item_keys.specs.declared.fault.KeyFault.{KeyFault}
use Rattle.item_keys.specs.declared.key.Key.{Key}
use Rattle.item_keys.specs.ItemKey.{key_in, key_alone}
use Rattle.table_schema.specs.declared.schema.Schema.{Schema}
use Rattle.row_keys.specs.declared.row_key.RowKey.{RowKey}
use Rattle.row_keys.specs.Keys.{row_key}
use Rattle.row_keys.specs.Rows.{item_at, with_item}
use Rattle.table_rows.specs.View.{TableView, committed}
use Rattle.table_rows.specs.declared.change.RowChange.{RowChange}
use Rattle.table_request.specs.declared.items.PutItem.{PutItem}
use Rattle.table_request.specs.declared.items.UpdateItem.{UpdateItem}
use Rattle.table_request.specs.declared.items.DeleteItem.{DeleteItem}
use Rattle.table_request.specs.declared.items.GetItem.{GetItem}
use Rattle.table_model.specs.declared.reply.Reply.{Reply}
use Rattle.table_model.specs.declared.reply.Reply.TheVariants.{Refused}
use Rattle.table_model.specs.declared.refusal.Refusal.{Refusal}
use Rattle.table_model.specs.declared.refusal.Refusal.TheVariants as refusal
use Rattle.table_model.specs.declared.refusal.Invalid.TheVariants as invalid
use Rattle.table_model.specs.declared.refusal.Invalid as why
use Rattle.update_eval.specs.declared.fault.EvalFault.{EvalFault}
use Rattle.table_model.specs.Outcome.{ItemOutcome}
use Rattle.table_model.specs.Database.{Database, Table, Effect, unless, with_table}
use Rattle.table_model.specs.Reads.{get_item, told_read}
use Rattle.table_model.specs.Writes.{put_item, put_at, put_fault, update_item, update_at, delete_item, delete_at, key_update, old_at}
use Rattle.table_items.specs.Effects.{table_at, HasTable, IsDone, IsTold}
use Rattle.table_items.specs.Outcomes.{row_key_if}
use Rattle.table_items.specs.Steps.{IsRefused, IsWritten, IsPut, IsUpdate, IsUpdateAt, IsUnless, IsDelete}
use Rattle.table_items.proofs.Effects.{refused_is, written_is, idle_after, keyed_is, keyed_fault}

-- one change that is prepared and made
pub made_one :
    (old held new : TableView) (change : RowChange) → old.pending ≡ [] → held ≡ record old { pending = old.pending ++ change ∷ [] }
    → new ≡ record { schema = held.schema; rows = committed held.rows held.pending; pending = [] }
    → new ≡ record old { rows = with_item old.rows change.key change.new }
made_one old held new change idle is made =
    made ∙ ap (λ kept. record { schema = kept.schema; rows = committed kept.rows kept.pending; pending = [] }) is
    ∙ ap (λ before. record { schema = old.schema; rows = committed old.rows (before ++ change ∷ []); pending = [] }) idle
    ∙ ap (λ after. record { schema = old.schema; rows = with_item old.rows change.key change.new; pending = after }) (sym idle)

-- what is written goes by the outcome
pub along_outcome :
    (old new : TableView) (key : RowKey) (lost : Option Attributes) (fault : EvalFault → why.Invalid)
    (told : Option Attributes → Reply) (reply : Reply) (here wanted : ItemOutcome) → here ≡ wanted
    → IsWritten old key lost fault told here new reply → IsWritten old key lost fault told wanted new reply
along_outcome old new key lost fault told reply here wanted same =
    let P : ItemOutcome → Type 0 = λ outcome. IsWritten old key lost fault told outcome new reply in
    subst P same

-- ---- puts

abbrev put_key : PutItem → Schema → Result Key KeyFault
put_key r schema = key_in schema schema.keys r.item

pub put_done :
    (r : PutItem) (old new : TableView) (key : RowKey) (reply : Reply) → old.pending ≡ []
    → Ok key ≡ row_key_if (key_in old.schema old.schema.keys r.item) → IsPut r old key new reply
    → IsDone r.table (λ db. put_item db r) old new reply
put_done r old new key reply idle is put = record {
  idle = idle_after old new key _ _ _ _ reply idle put;
  made =
      λ db number has.
      keyed_is db r.table number old key (put_key r) (λ db. put_at db r) _ has is
      (λ found same. written_is db r.table number old new found _ put_fault _ _ reply has (subst (λ k. IsPut r old k new reply) same put));
}

pub put_refused :
    (r : PutItem) (old new : TableView) (fault : KeyFault) (reply : Reply) → old.pending ≡ []
    → Err fault ≡ row_key_if (key_in old.schema old.schema.keys r.item) → IsRefused old (refusal.Invalid (invalid.Key fault)) new reply
    → IsDone r.table (λ db. put_item db r) old new reply
put_refused r old new fault reply idle is kept = record {
  idle = ap (λ kept. kept.pending) kept.0 ∙ idle;
  made =
      λ db number has.
      keyed_fault db r.table number old fault (put_key r) (λ db. put_at db r) has is ∙ refused_is db r.table number old new _ reply has kept;
}

-- ---- deletes

abbrev delete_key : DeleteItem → Schema → Result Key KeyFault
delete_key r schema = key_alone schema schema.keys r.key

pub delete_done :
    (r : DeleteItem) (old new : TableView) (key : RowKey) (reply : Reply) → old.pending ≡ []
    → Ok key ≡ row_key_if (key_alone old.schema old.schema.keys r.key) → IsDelete r old key new reply
    → IsDone r.table (λ db. delete_item db r) old new reply
delete_done r old new key reply idle is gone = record {
  idle = idle_after old new key _ _ _ _ reply idle gone;
  made =
      λ db number has.
      keyed_is db r.table number old key (delete_key r) (λ db. delete_at db r) _ has is
      (λ found same. written_is db r.table number old new found _ invalid.Evaluation _ _ reply has (subst (λ k. IsDelete r old k new reply) same gone));
}

pub delete_refused :
    (r : DeleteItem) (old new : TableView) (fault : KeyFault) (reply : Reply) → old.pending ≡ []
    → Err fault ≡ row_key_if (key_alone old.schema old.schema.keys r.key) → IsRefused old (refusal.Invalid (invalid.Key fault)) new reply
    → IsDone r.table (λ db. delete_item db r) old new reply
delete_refused r old new fault reply idle is kept = record {
  idle = ap (λ kept. kept.pending) kept.0 ∙ idle;
  made =
      λ db number has.
      keyed_fault db r.table number old fault (delete_key r) (λ db. delete_at db r) has is ∙ refused_is db r.table number old new _ reply has kept;
}

-- ---- updates

abbrev update_key : UpdateItem → Schema → Result Key KeyFault
update_key r schema = key_alone schema schema.keys r.key

abbrev update_effect : UpdateItem → Database → Table → Key → Effect
update_effect r db table key = unless db (key_update table.schema.keys r.update) (update_at db r table key)

-- a write of a key attribute is refused, and other updates are made
unless_is :
    (db : Database) (name : List ℕ) (number : ℕ) (old new : TableView) (why : Option Refusal) (reply : Reply) (effect : Effect) (P : Type 0)
    → HasTable db name number old → (P → effect ≡ (with_table db name (table_at number new), reply)) → IsUnless why old new reply P
    → unless db why effect ≡ (with_table db name (table_at number new), reply)
unless_is db name number old new None reply effect P has goes done = goes done
unless_is db name number old new (Some why) reply effect P has goes done = refused_is db name number old new why reply has done

unless_idle :
    (old new : TableView) (why : Option Refusal) (reply : Reply) (P : Type 0) → old.pending ≡ [] → (P → new.pending ≡ []) → IsUnless why old new reply P
    → new.pending ≡ []
unless_idle old new None reply P idle goes done = goes done
unless_idle old new (Some why) reply P idle goes done = ap (λ kept. kept.pending) done.0 ∙ idle

pub update_done :
    (r : UpdateItem) (old new : TableView) (key : RowKey) (reply : Reply) → old.pending ≡ []
    → Ok key ≡ row_key_if (key_alone old.schema old.schema.keys r.key) → IsUpdateAt r old key new reply
    → IsDone r.table (λ db. update_item db r) old new reply
update_done r old new key reply idle is done = record {
  idle =
      unless_idle old new (key_update old.schema.keys r.update) reply (IsUpdate r old key new reply) idle
      (λ update. idle_after old new key _ _ _ _ reply idle update) done;
  made =
      λ db number has.
      keyed_is db r.table number old key (update_key r) (update_effect r) _ has is
      (λ found same.
      unless_is db r.table number old new (key_update old.schema.keys r.update) reply _ (IsUpdate r old (row_key found) new reply) has
      (λ update. written_is db r.table number old new found _ invalid.Evaluation _ _ reply has update)
      (subst (λ k. IsUpdateAt r old k new reply) same done));
}

pub update_refused :
    (r : UpdateItem) (old new : TableView) (fault : KeyFault) (reply : Reply) → old.pending ≡ []
    → Err fault ≡ row_key_if (key_alone old.schema old.schema.keys r.key) → IsRefused old (refusal.Invalid (invalid.Key fault)) new reply
    → IsDone r.table (λ db. update_item db r) old new reply
update_refused r old new fault reply idle is kept = record {
  idle = ap (λ kept. kept.pending) kept.0 ∙ idle;
  made =
      λ db number has.
      keyed_fault db r.table number old fault (update_key r) (update_effect r) has is ∙ refused_is db r.table number old new _ reply has kept;
}

-- ---- reads

abbrev get_key : GetItem → Schema → Result Key KeyFault
get_key r schema = key_alone schema schema.keys r.key

abbrev get_effect : GetItem → Database → Table → Key → Effect
get_effect r db table key = (db, told_read r (old_at table key))

pub get_told :
    (r : GetItem) (kept : TableView) (key : RowKey) (reply : Reply) → Ok key ≡ row_key_if (key_alone kept.schema kept.schema.keys r.key)
    → reply ≡ told_read r (item_at kept.rows key) → IsTold r.table (λ db. get_item db r) kept reply
get_told r kept key reply is told =
    λ db number has.
    keyed_is db r.table number kept key (get_key r) (get_effect r) (db, reply) has is
    (λ at same. ap (λ answer. (db, answer)) (ap (λ k. told_read r (item_at kept.rows k)) (sym same) ∙ sym told))

pub get_refused :
    (r : GetItem) (kept : TableView) (fault : KeyFault) → Err fault ≡ row_key_if (key_alone kept.schema kept.schema.keys r.key)
    → IsTold r.table (λ db. get_item db r) kept (Refused (refusal.Invalid (invalid.Key fault)))
get_refused r kept fault is = λ db number has. keyed_fault db r.table number kept fault (get_key r) (get_effect r) has is
