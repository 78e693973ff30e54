-- The writes of a request, made one after another, are its changes.
use Rattle.std.proofs.Common.{◌≡◌, ℕ, List, [], ◌∷◌, ◌++◌, map, Bool, true, false, cond, Option, None, Some, option_map, Result, refl, sym, ap, ◌∙◌, subst}
use Rattle.std.specs.Prelude.{filter_map}
use Rattle.std.specs.List.{list_any, flat_map, cons_option}
use Rattle.std.specs.Map.{lookup, set_value}
use Rattle.std.specs.BTreeMap.{is_at}
use Rattle.std.specs.Ordering.{nat_cmp}
use Rattle.std.specs.Cmp.Lexicographic.{slice_cmp}
use Rattle.attr_value.specs.Tree.{Attributes}
use Rattle.table_schema.specs.declared.schema.Schema.{Schema}
use Rattle.item_keys.specs.declared.fault.KeyFault.{KeyFault}
use Rattle.item_keys.specs.declared.key.Key.{Key}
use Rattle.item_keys.specs.ItemKey.{key_in, key_alone}
use Rattle.row_keys.specs.declared.row_key.RowKey.{RowKey}
use Rattle.row_keys.specs.Rows.{with_item}
use Rattle.table_request.specs.declared.batches.BatchWrite.{BatchWrite}
use Rattle.table_request.specs.declared.batches.TableWrites.{TableWrites}
use Rattle.table_request.specs.declared.batches.WriteRequest.{WriteRequest}
use Rattle.table_request.specs.declared.batches.WriteRequest.TheVariants.{Put, Delete}
use Rattle.table_model.specs.declared.reply.Reply.{Reply}
use Rattle.table_model.specs.declared.reply.Reply.TheVariants.{BatchWritten, Refused}
use Rattle.table_model.specs.declared.refusal.Refusal.{Refusal}
use Rattle.table_model.specs.declared.refusal.Refusal.TheVariants.{Invalid}
use Rattle.table_model.specs.declared.refusal.Invalid.TheVariants as invalid
use Rattle.update_eval.specs.declared.fault.EvalFault.TheVariants.{IndexKey}
use Rattle.table_model.specs.Database.{Database, Table, table_named, with_row, unless, first, where_true}
use Rattle.table_model.specs.Batches.{missing, key_refusal, place_if, has_twice, is_oversized, is_unfit_write, write_keys, write_key, write_image, write_at, write_if, write_one, write_table, write_all, used_by_writes, batch_write, batch_write_refusal}
use Rattle.table_model.specs.Consumed.{where_asked}
use Rattle.numbered_tables.specs.declared.change.TableChange.{TableChange}
use Rattle.numbered_tables.specs.Changes.{changed_if, changed, changed_all, IsChanged}
use Rattle.numbered_tables.specs.Tables.{Kept, database_in}
use Rattle.table_batches.specs.Answers.{IsWritten, tables_alone}
use Rattle.table_batches.specs.Keys.{keys_refusal}
use Rattle.table_batches.specs.Writes.{change_if, changes_if, changes_in, items_refusal}
use Rattle.table_batches.proofs.Refusals.{passed, refused, in_parts}

-- ---- schemas stay

abbrev schema_of : Table → Schema
schema_of table = table.schema

schema_there :
    (b : Bool) (new old : Table) (o p : Option Table) → new.schema ≡ old.schema → option_map schema_of o ≡ option_map schema_of p
    → option_map schema_of (cond b (Some new) o) ≡ option_map schema_of (cond b (Some old) p)
schema_there true new old o p same rest = ap (λ (s : Schema). Some s) same
schema_there false new old o p same rest = rest

schema_set_at :
    (test at : List ℕ → Bool) (e : List ℕ × Table) (es : List (List ℕ × Table)) (old new : Table) (b : Bool)
    → cond b (Some e.1) (lookup at es) ≡ Some old → new.schema ≡ old.schema
    → (lookup at es ≡ Some old → option_map schema_of (lookup test (set_value at es new)) ≡ option_map schema_of (lookup test es))
    → option_map schema_of (lookup test (cond b ((e.0, new) ∷ es) (e ∷ set_value at es new))) ≡ option_map schema_of (lookup test (e ∷ es))
schema_set_at test at e es old new true found same rest =
    let there : old ≡ e.1 = cc in
    schema_there (test e.0) new e.1 (lookup test es) (lookup test es) (same ∙ ap schema_of there) refl
schema_set_at test at e es old new false found same rest =
    schema_there (test e.0) e.1 e.1 (lookup test (set_value at es new)) (lookup test es) refl (rest found)

schema_set :
    (test at : List ℕ → Bool) (es : List (List ℕ × Table)) (old new : Table) → lookup at es ≡ Some old → new.schema ≡ old.schema
    → option_map schema_of (lookup test (set_value at es new)) ≡ option_map schema_of (lookup test es)
schema_set test at [] old new found same = refl
schema_set test at (e ∷ es) old new found same =
    schema_set_at test at e es old new (at e.0) found same (λ is. schema_set test at es old new is same)

-- tables of the same names have the same schemas
abbrev AreAlike : Database → Database → Type 0
AreAlike db other = (name : List ℕ) → option_map schema_of (table_named db name) ≡ option_map schema_of (table_named other name)

row_alike :
    (db other : Database) (name : List ℕ) (table : Table) (key : RowKey) (new : Option Attributes) → table_named db name ≡ Some table
    → AreAlike db other → AreAlike (with_row db name table key new) other
row_alike db other name table key new found alike = λ n.
    schema_set (is_at (slice_cmp nat_cmp n)) (is_at (slice_cmp nat_cmp name)) db.tables table (record table { rows = with_item table.rows key new }) found refl
    ∙ alike n

-- a table that is there has the schema that it had
has_schema : (o : Option Table) (schema : Schema) → option_map schema_of o ≡ Some schema → (table : Table) × (o ≡ Some table) × (table.schema ≡ schema)
has_schema None schema is = absurd (cc)
has_schema (Some table) schema is = (table, refl, cc)

-- and one that is not is not there
has_none : (o : Option Table) → option_map schema_of o ≡ None → o ≡ None
has_none None is = refl
has_none (Some table) is = absurd (cc)

-- ---- one write

pub key_by : (table other : Table) (write : WriteRequest) → table.schema ≡ other.schema → write_key table write ≡ write_key other write
key_by table other (Put item) same = ap (λ (s : Schema). key_in s s.keys item) same
key_by table other (Delete key) same = ap (λ (s : Schema). key_alone s s.keys key) same

-- a write is made as its change is
pub record IsOne (db : Database) (name : List ℕ) (write : WriteRequest) (change : Option TableChange) (rest : List TableChange) (other : Database) : Type 0 where
  pub made : changed_all db (cons_option change rest) ≡ changed_all (write_one db name write) rest
  pub alike : AreAlike (write_one db name write) other

at_key :
    (db other : Database) (name : List ℕ) (write : WriteRequest) (table : Table) (o : Option RowKey) (rest : List TableChange)
    → table_named db name ≡ Some table → place_if (write_key table write) ≡ o → AreAlike db other → IsOne db name write (change_if name write o) rest other
at_key db other name write table None rest found place alike =
    let same : db ≡ write_one db name write =
    sym (ap (λ (t : Option Table). write_if db name t write) found ∙ ap (λ (k : Option RowKey). write_at db name table write k) place) in record {
      made = ap (λ (d : Database). changed_all d rest) same;
      alike = subst (λ (d : Database). AreAlike d other) same alike;
    }
at_key db other name write table (Some key) rest found place alike =
    let same : with_row db name table key (write_image write) ≡ write_one db name write =
    sym (ap (λ (t : Option Table). write_if db name t write) found ∙ ap (λ (k : Option RowKey). write_at db name table write k) place) in
    let change : TableChange = record { table = name; key = key; new = write_image write } in record {
      made = ap (λ (t : Option Table). changed_all (changed_if db change t) rest) found ∙ ap (λ (d : Database). changed_all d rest) same;
      alike = subst (λ (d : Database). AreAlike d other) same (row_alike db other name table key (write_image write) found alike);
    }

one_write :
    (db other : Database) (name : List ℕ) (write : WriteRequest) (table : Table) (rest : List TableChange) → table_named other name ≡ Some table
    → AreAlike db other → IsOne db name write (change_if name write (place_if (write_key table write))) rest other
one_write db other name write table rest found alike =
    let now = has_schema (table_named db name) table.schema (alike name ∙ ap (option_map schema_of) found) in
    subst (λ (r : Result Key KeyFault). IsOne db name write (change_if name write (place_if r)) rest other) (key_by now.0 table write now.2)
    (at_key db other name write now.0 (place_if (write_key now.0 write)) rest now.1 refl alike)

-- ---- the writes of a table

pub record AreMade (db : Database) (changes : List TableChange) (after other : Database) : Type 0 where
  pub made : changed_all db changes ≡ after
  pub alike : AreAlike after other

in_table :
    (db other : Database) (name : List ℕ) (table : Table) (writes : List WriteRequest) → table_named other name ≡ Some table → AreAlike db other
    → AreMade db (filter_map (λ w. change_if name w (place_if (write_key table w))) writes) (write_table db name writes) other
in_table db other name table [] found alike = record { made = refl; alike = alike }
in_table db other name table (w ∷ ws) found alike =
    let rest = filter_map (λ v. change_if name v (place_if (write_key table v))) ws in
    let one = one_write db other name w table rest found alike in
    let more = in_table (write_one db name w) other name table ws found one.alike in
    record { made = one.made ∙ more.made; alike = more.alike }

nowhere : (db : Database) (name : List ℕ) (writes : List WriteRequest) → table_named db name ≡ None → write_table db name writes ≡ db
nowhere db name [] none = refl
nowhere db name (w ∷ ws) none =
    ap (λ (t : Option Table). write_table (write_if db name t w) name ws) none ∙ nowhere db name ws none

of_table : (db other : Database) (t : TableWrites) (o : Option Table) → table_named other t.table ≡ o → AreAlike db other → AreMade db (changes_if o t) (write_table db t.table t.writes) other
of_table db other t None found alike =
    let same : db ≡ write_table db t.table t.writes =
    sym (nowhere db t.table t.writes (has_none (table_named db t.table) (alike t.table ∙ ap (option_map schema_of) found))) in
    record { made = same; alike = subst (λ (d : Database). AreAlike d other) same alike }
of_table db other t (Some table) found alike = in_table db other t.table table t.writes found alike

-- ---- the writes of all tables

changed_both : (db : Database) (xs ys : List TableChange) → changed_all db (xs ++ ys) ≡ changed_all (changed_all db xs) ys
changed_both db [] ys = refl
changed_both db (x ∷ xs) ys = changed_both (changed db x) xs ys

of_all : (db other : Database) (ts : List TableWrites) → AreAlike db other → changed_all db (flat_map (changes_in other) ts) ≡ write_all db ts
of_all db other [] alike = refl
of_all db other (t ∷ ts) alike =
    let here = of_table db other t (table_named other t.table) refl alike in
    changed_both db (changes_in other t) (flat_map (changes_in other) ts)
    ∙ ap (λ (d : Database). changed_all d (flat_map (changes_in other) ts)) here.made
    ∙ of_all (write_table db t.table t.writes) other ts here.alike

-- what is told where all writes are made
abbrev pub told_all : Database → BatchWrite → Reply
told_all db r = BatchWritten [] (where_asked r.capacity (used_by_writes db r.tables))

-- a request that is not refused is made by its changes
pub written_is :
    (db new : Database) (r : BatchWrite) (changes : List TableChange) → batch_write_refusal db r.tables ≡ None
    → changes ≡ flat_map (changes_in db) r.tables → new ≡ changed_all db changes → batch_write db r ≡ (new, told_all db r)
written_is db new r changes fit are made =
    let all : new ≡ write_all db r.tables = made ∙ ap (changed_all db) are ∙ of_all db db r.tables (λ name. refl) in
    ap (λ (o : Option Refusal). unless db o (write_all db r.tables, told_all db r)) fit ∙ (λ i. (sym all i, told_all db r))

-- and one that is refused changes nothing
pub refused_is : (db : Database) (r : BatchWrite) (why : Refusal) → batch_write_refusal db r.tables ≡ Some why → batch_write db r ≡ (db, Refused why)
refused_is db r why is = ap (λ (o : Option Refusal). unless db o (write_all db r.tables, told_all db r)) is

-- ---- refusals in their order

in_stages :
    (db : Database) (ts : List TableWrites)
    → batch_write_refusal db ts
    ≡ first (first (map (λ t. missing db t.table) ts) ∷ keys_refusal (write_keys db) ts ∷ items_refusal db ts ∷ [])
in_stages db ts =
    in_parts (first (map (λ t. missing db t.table) ts)) (first (map key_refusal (flat_map (write_keys db) ts)))
    (where_true (list_any (λ t. has_twice (filter_map place_if (write_keys db t))) ts) (Invalid invalid.Twice))
    (where_true (list_any (λ t. list_any is_oversized t.writes) ts) (Invalid invalid.ItemTooLarge)
    ∷ where_true (list_any (λ t. list_any (is_unfit_write (table_named db t.table)) t.writes) ts) (Invalid (invalid.Evaluation IndexKey))
    ∷ [])

module _ (db : Database) (ts : List TableWrites) (there : first (map (λ t. missing db t.table) ts) ≡ None) where
  pub keys_refuse : (why : Refusal) → keys_refusal (write_keys db) ts ≡ Some why → batch_write_refusal db ts ≡ Some why
  keys_refuse why is =
      in_stages db ts
      ∙ sym (passed (first (map (λ t. missing db t.table) ts)) (keys_refusal (write_keys db) ts ∷ items_refusal db ts ∷ []) there)
      ∙ sym (refused (keys_refusal (write_keys db) ts) (items_refusal db ts ∷ []) why is)

  -- where keys are not refused, items may be
  pub items_refuse : keys_refusal (write_keys db) ts ≡ None → batch_write_refusal db ts ≡ items_refusal db ts
  items_refuse is =
      in_stages db ts
      ∙ sym (passed (first (map (λ t. missing db t.table) ts)) (keys_refusal (write_keys db) ts ∷ items_refusal db ts ∷ []) there)
      ∙ sym (passed (keys_refusal (write_keys db) ts) (items_refusal db ts ∷ []) is) ∙ alone (items_refusal db ts)
    where
      alone : (o : Option Refusal) → first (o ∷ []) ≡ o
      alone None = refl
      alone (Some why) = refl

pub tables_refuse :
    (db : Database) (ts : List TableWrites) (why : Refusal) → first (map (λ t. missing db t.table) ts) ≡ Some why → batch_write_refusal db ts ≡ Some why
tables_refuse db ts why is =
    in_stages db ts ∙ sym (refused (first (map (λ t. missing db t.table) ts)) (keys_refusal (write_keys db) ts ∷ items_refusal db ts ∷ []) why is)

-- by what is known of the items
pub items_are :
    (db : Database) (ts : List TableWrites) (oversized unfit : Bool) → oversized ≡ list_any (λ t. list_any is_oversized t.writes) ts
    → unfit ≡ list_any (λ t. list_any (is_unfit_write (table_named db t.table)) t.writes) ts
    → items_refusal db ts
    ≡ first (where_true oversized (Invalid invalid.ItemTooLarge) ∷ where_true unfit (Invalid (invalid.Evaluation IndexKey)) ∷ [])
items_are db ts oversized unfit large refuses = λ i.
    first (where_true (sym large i) (Invalid invalid.ItemTooLarge) ∷ where_true (sym refuses i) (Invalid (invalid.Evaluation IndexKey)) ∷ [])

-- where keys are not refused none stands twice
pub none_twice : (db : Database) (ts : List TableWrites) → keys_refusal (write_keys db) ts ≡ None → list_any (λ t. has_twice (filter_map place_if (write_keys db t))) ts ≡ false
none_twice db ts is =
    go (first (map key_refusal (flat_map (write_keys db) ts))) (list_any (λ t. has_twice (filter_map place_if (write_keys db t))) ts) is
  where
    go : (o : Option Refusal) (b : Bool) → first (o ∷ where_true b (Invalid invalid.Twice) ∷ []) ≡ None → b ≡ false
    go None true h = absurd (cc)
    go None false h = refl
    go (Some why) b h = absurd (cc)

-- ---- over the tables that are kept

pub answered :
    (old new : Kept) (r : BatchWrite) (changes : List TableChange) → batch_write_refusal (tables_alone old) r.tables ≡ None
    → changes ≡ flat_map (changes_in (tables_alone old)) r.tables → IsChanged old changes new → IsWritten old r new (told_all (tables_alone old) r)
answered old new r changes fit are made = λ tokens count.
    written_is (database_in old tokens count) (database_in new tokens count) r changes fit are (made tokens count)

pub refused_kept :
    (old : Kept) (r : BatchWrite) (why : Refusal) → batch_write_refusal (tables_alone old) r.tables ≡ Some why → IsWritten old r old (Refused why)
refused_kept old r why is = λ tokens count. refused_is (database_in old tokens count) r why is
