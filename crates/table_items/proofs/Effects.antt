-- What a step does to one table is the effect on every database that has it.
use Rattle.std.proofs.Common.{◌≡◌, ℕ, List, [], Option, Some, Result, Ok, Err, ap, sym, ◌∙◌}
use Rattle.std.specs.Ordering.{nat_cmp}
use Rattle.std.specs.Cmp.Lexicographic.{slice_cmp}
use Rattle.std.specs.BTreeMap.{is_at}
use Rattle.std.proofs.lemmas.Map.Steps.{set_value_same}
use Rattle.attr_value.specs.Tree.{Attributes}
use Rattle.update_eval.specs.declared.fault.EvalFault.{EvalFault}
use Rattle.item_keys.specs.declared.fault.KeyFault.{KeyFault}
use Rattle.item_keys.specs.declared.key.Key.{Key}
use Rattle.table_schema.specs.declared.schema.Schema.{Schema}
use Rattle.row_keys.specs.declared.row_key.RowKey.{RowKey}
use Rattle.row_keys.specs.Keys.{row_key}
use Rattle.table_rows.specs.View.{TableView}
use Rattle.table_model.specs.declared.reply.Reply.{Reply}
use Rattle.table_model.specs.declared.reply.Reply.TheVariants.{Refused}
use Rattle.table_model.specs.declared.refusal.Refusal.{Refusal}
use Rattle.table_model.specs.declared.refusal.Refusal.TheVariants as refusal
use Rattle.table_model.specs.declared.refusal.Invalid as why
use Rattle.table_model.specs.declared.refusal.Invalid.TheVariants as invalid
use Rattle.table_model.specs.Outcome.{ItemOutcome, becomes, is_false, is_faulty}
use Rattle.table_model.specs.Database.{Database, Table, Effect, table_named, with_table, refused, in_table, at_key}
use Rattle.table_model.specs.Writes.{written}
use Rattle.table_items.specs.Effects.{table_at, HasTable}
use Rattle.table_items.specs.Outcomes.{row_key_if}
use Rattle.table_items.specs.Steps.{IsRefused, IsWritten}

-- with a table that it has, a database is the same
pub same_table : (db : Database) (name : List ℕ) (table : Table) → table_named db name ≡ Some table → with_table db name table ≡ db
same_table db name table is =
    ap (λ tables. record db { tables = tables }) (set_value_same (is_at (slice_cmp nat_cmp name)) db.tables table is)

pub refused_is :
    (db : Database) (name : List ℕ) (number : ℕ) (old new : TableView) (why : Refusal) (reply : Reply)
    → HasTable db name number old → IsRefused old why new reply → refused db why ≡ (with_table db name (table_at number new), reply)
refused_is db name number old new why reply has kept =
    let same : db ≡ with_table db name (table_at number new) =
    sym (same_table db name (table_at number old) has) ∙ ap (λ kept. with_table db name (table_at number kept)) (sym kept.0) in
    let told : Refused why ≡ reply = sym kept.1 in
    λ i. (same i, told i)

-- what is written at a key
pub written_is :
    (db : Database) (name : List ℕ) (number : ℕ) (old new : TableView) (key : Key) (lost : Option Attributes) (fault : EvalFault → why.Invalid)
    (told : Option Attributes → Reply) (outcome : ItemOutcome) (reply : Reply)
    → HasTable db name number old → IsWritten old (row_key key) lost fault told outcome new reply
    → written db name (table_at number old) key lost fault told outcome ≡ (with_table db name (table_at number new), reply)
written_is db name number old new key lost fault told (becomes item) reply has made =
    let table = sym made.0 in
    let same = sym made.1 in
    λ i. (with_table db name (table_at number (table i)), same i)
written_is db name number old new key lost fault told is_false reply has kept =
    refused_is db name number old new (refusal.ConditionFailed lost) reply has kept
written_is db name number old new key lost fault told (is_faulty why) reply has kept =
    refused_is db name number old new (refusal.Invalid (fault why)) reply has kept

-- no change is prepared after a write
pub idle_after :
    (old new : TableView) (key : RowKey) (lost : Option Attributes) (fault : EvalFault → why.Invalid)
    (told : Option Attributes → Reply) (outcome : ItemOutcome) (reply : Reply) → old.pending ≡ []
    → IsWritten old key lost fault told outcome new reply → new.pending ≡ []
idle_after old new key lost fault told (becomes item) reply idle made = ap (λ kept. kept.pending) made.0 ∙ idle
idle_after old new key lost fault told is_false reply idle kept = ap (λ kept. kept.pending) kept.0 ∙ idle
idle_after old new key lost fault told (is_faulty why) reply idle kept = ap (λ kept. kept.pending) kept.0 ∙ idle

-- ---- requests that state a key

-- the effect at the key that a request states, in the table that it names
abbrev pub keyed : List ℕ → (Schema → Result Key KeyFault) → (Database → Table → Key → Effect) → Database → Effect
keyed name stated effect db = in_table db name (table_named db name) (λ table. at_key db (stated table.schema) (effect db table))

at_row_key :
    (db : Database) (key : RowKey) (stated : Result Key KeyFault) (effect : Key → Effect) (wanted : Effect)
    → Ok key ≡ row_key_if stated → ((found : Key) → key ≡ row_key found → effect found ≡ wanted) → at_key db stated effect ≡ wanted
at_row_key db key (Ok found) effect wanted is goes = goes found (cc)
at_row_key db key (Err fault) effect wanted is goes = absurd (cc)

at_fault :
    (db : Database) (fault : KeyFault) (stated : Result Key KeyFault) (effect : Key → Effect) → Err fault ≡ row_key_if stated
    → at_key db stated effect ≡ refused db (refusal.Invalid (invalid.Key fault))
at_fault db fault (Ok found) effect is = absurd (cc)
at_fault db fault (Err other) effect is =
    let same : other ≡ fault = cc in
    ap (λ f. refused db (refusal.Invalid (invalid.Key f))) same

-- where there is a key, the effect is that at the key
pub keyed_is :
    (db : Database) (name : List ℕ) (number : ℕ) (kept : TableView) (key : RowKey) (stated : Schema → Result Key KeyFault)
    (effect : Database → Table → Key → Effect) (wanted : Effect) → HasTable db name number kept → Ok key ≡ row_key_if (stated kept.schema)
    → ((found : Key) → key ≡ row_key found → effect db (table_at number kept) found ≡ wanted) → keyed name stated effect db ≡ wanted
keyed_is db name number kept key stated effect wanted has is goes =
    ap (λ table. in_table db name table (λ table. at_key db (stated table.schema) (effect db table))) has
    ∙ at_row_key db key (stated kept.schema) (effect db (table_at number kept)) wanted is goes

-- where there is none, the effect is the refusal of its fault
pub keyed_fault :
    (db : Database) (name : List ℕ) (number : ℕ) (kept : TableView) (fault : KeyFault) (stated : Schema → Result Key KeyFault)
    (effect : Database → Table → Key → Effect) → HasTable db name number kept → Err fault ≡ row_key_if (stated kept.schema)
    → keyed name stated effect db ≡ refused db (refusal.Invalid (invalid.Key fault))
keyed_fault db name number kept fault stated effect has is =
    ap (λ table. in_table db name table (λ table. at_key db (stated table.schema) (effect db table))) has
    ∙ at_fault db fault (stated kept.schema) (effect db (table_at number kept)) is
