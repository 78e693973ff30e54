-- Requests on tables leave rows at their keys.
use Rattle.std.proofs.Common.{◌≡◌, ℕ, List, [], ◌∷◌, ◌++◌, filter, Bool, true, false, cond, bytes_eq, ◌||◌, Option, None, Some, Result, Ok, Err, refl, sym, ap, ◌∙◌, subst}
use Rattle.std.specs.Prelude.{nat_le, length}
use Rattle.std.proofs.lemmas.Slice.Eq.{bytes_eq-Decides}
use Rattle.std.specs.List.{list_any}
use Rattle.std.specs.Result.{result_map_both}
use Rattle.std.specs.Ordering.{nat_cmp}
use Rattle.std.specs.Cmp.Lexicographic.{slice_cmp}
use Rattle.std.specs.BTreeMap.{is_at}
use Rattle.attr_value.specs.Tree.{Tree, Attributes}
use Rattle.attr_value.specs.Paths.{value_at}
use Rattle.item_keys.specs.ItemKey.{part_of, part_in, sort_in, both, key_from, key_in}
use Rattle.item_keys.specs.declared.fault.KeyFault.{KeyFault}
use Rattle.item_keys.specs.declared.value.KeyValue.{KeyValue}
use Rattle.table_schema.specs.declared.definition.Definition.{Definition}
use Rattle.table_schema.specs.declared.definition.KeyKind.{KeyKind}
use Rattle.table_schema.specs.declared.keys.KeyNames.{KeyNames}
use Rattle.table_schema.specs.declared.schema.Schema.{Schema}
use Rattle.table_schema.specs.Kind.{kind_of}
use Rattle.table_schema.specs.KeyName.{is_key_name, is_sort_name}
use Rattle.row_keys.specs.declared.row_key.RowKey.{RowKey}
use Rattle.row_keys.specs.Rows.{Rows, index_keys}
use Rattle.page_ranges.specs.AtKeys.{key_if, IsAtKey, AreAtKeys}
use Rattle.table_request.specs.declared.tables.CreateTable.{CreateTable}
use Rattle.table_request.specs.declared.tables.DeleteTable.{DeleteTable}
use Rattle.table_request.specs.declared.tables.DescribeTable.{DescribeTable}
use Rattle.table_request.specs.declared.tables.UpdateTable.{UpdateTable}
use Rattle.table_request.specs.declared.tables.TableUpdate.{TableUpdate}
use Rattle.table_request.specs.declared.time_to_live.UpdateTimeToLive.{UpdateTimeToLive}
use Rattle.table_request.specs.declared.time_to_live.DescribeTimeToLive.{DescribeTimeToLive}
use Rattle.table_model.specs.declared.reply.Reply.{Reply}
use Rattle.table_model.specs.declared.reply.Reply.TheVariants as answer
use Rattle.table_model.specs.declared.refusal.Refusal.{Refusal}
use Rattle.table_model.specs.Database.{Database, Table, Effect, table_named, with_table, refused}
use Rattle.table_model.specs.Catalog.{most_tables, with_new_table, made_at, create_if, create_table, delete_table, describe_table}
use Rattle.table_model.specs.Catalog.{added_if, with_definitions, is_used, updated_schema, has_bad_definition, index_refusal}
use Rattle.table_model.specs.Catalog.{ttl_refusal, with_ttl, update_time_to_live, describe_time_to_live}
use Rattle.table_model.specs.Expired.{swept_tables}
use Rattle.table_model.specs.Catalog.{IsUpdatedTo, IsBadlyDefinedOr, IsRefusedFirst, IsUpdateIn, IsUpdateTable}
use Rattle.plain_database.specs.Keyed.{IsKeyed, AreKeyed, HasRowsAtKeys}
use Rattle.plain_database.proofs.AllEntries.{all_inserted, all_removed}
use Rattle.plain_database.proofs.Rows.{table_keyed, named_keyed}
use Rattle.plain_database.proofs.Singles.{in_keyed, unless_keyed}

-- ---- tables made and dropped

new_keyed : (db : Database) (schema : Schema) → HasRowsAtKeys db → HasRowsAtKeys (with_new_table db schema)
new_keyed db schema all = all_inserted (λ (n : List ℕ) (t : Table). IsKeyed t) (slice_cmp nat_cmp) schema.name _ db.tables tt (λ other same. tt) all

full_or_new : (b : Bool) (db : Database) (full made : Effect) → HasRowsAtKeys full.0 → HasRowsAtKeys made.0 → HasRowsAtKeys (cond b full made).0
full_or_new true db full made f m = f
full_or_new false db full made f m = m

create_case : (db : Database) (schema : Schema) (moment : ℕ) (o : Option Table) → HasRowsAtKeys db → HasRowsAtKeys (create_if db schema moment o).0
create_case db schema moment (Some t) all = all
create_case db schema moment None all =
    full_or_new (nat_le most_tables (length db.tables)) db _ (with_new_table db (made_at moment schema), answer.Described (made_at moment schema)) all (new_keyed db (made_at moment schema) all)

pub create_keyed : (db : Database) (r : CreateTable) (moment : ℕ) → HasRowsAtKeys db → HasRowsAtKeys (create_table db r moment).0
create_keyed db r moment all = create_case db r.schema moment (table_named db r.schema.name) all

pub drop_keyed : (db : Database) (r : DeleteTable) → HasRowsAtKeys db → HasRowsAtKeys (delete_table db r).0
drop_keyed db r all =
    in_keyed db r.table (table_named db r.table) _ all
    (λ t is. all_removed (λ (n : List ℕ) (u : Table). IsKeyed u) (is_at (slice_cmp nat_cmp r.table)) db.tables all)

pub describe_keyed : (db : Database) (r : DescribeTable) → HasRowsAtKeys db → HasRowsAtKeys (describe_table db r).0
describe_keyed db r all = in_keyed db r.table (table_named db r.table) _ all (λ t is. all)

-- ---- types that stay

kind_before : (name : List ℕ) (kind : KeyKind) (known : List Definition) (definition : Definition) → kind_of name known ≡ Some kind
    → kind_of name (known ++ definition ∷ []) ≡ Some kind
kind_before name kind [] definition is = cc
kind_before name kind (first ∷ known) definition is = go (bytes_eq first.name name) is (kind_before name kind known definition)
  where
    go : (b : Bool) → cond b (Some first.kind) (kind_of name known) ≡ Some kind → (kind_of name known ≡ Some kind → kind_of name (known ++ definition ∷ []) ≡ Some kind)
        → cond b (Some first.kind) (kind_of name (known ++ definition ∷ [])) ≡ Some kind
    go true e later = e
    go false e later = later e

kind_with : (name : List ℕ) (kind : KeyKind) (known added : List Definition) → kind_of name known ≡ Some kind → kind_of name (with_definitions known added) ≡ Some kind
kind_with name kind known [] is = is
kind_with name kind known (definition ∷ added) is =
    kind_with name kind (added_if (kind_of definition.name known) definition known) added (one_more (kind_of definition.name known))
  where
    one_more : (o : Option KeyKind) → kind_of name (added_if o definition known) ≡ Some kind
    one_more None = kind_before name kind known definition is
    one_more (Some other) = is

kind_kept : (keep : List ℕ → Bool) (name : List ℕ) (definitions : List Definition) → keep name ≡ true
    → kind_of name (filter (λ definition. keep definition.name) definitions) ≡ kind_of name definitions
kind_kept keep name [] kept = refl
kind_kept keep name (first ∷ rest) kept =
    go (keep first.name) (bytes_eq first.name name) refl refl (kind_kept keep name rest kept)
  where
    go : (k b : Bool) → keep first.name ≡ k → bytes_eq first.name name ≡ b → kind_of name (filter (λ definition. keep definition.name) rest) ≡ kind_of name rest
        → kind_of name (cond k (first ∷ filter (λ definition. keep definition.name) rest) (filter (λ definition. keep definition.name) rest))
        ≡ cond b (Some first.kind) (kind_of name rest)
    go true true ke be later = rw be refl
    go true false ke be later = rw be later
    go false true ke be later =
        let t : keep first.name ≡ true = ap keep ((bytes_eq-Decides first.name name).0 be) ∙ kept in
        let f : true ≡ false = sym t ∙ ke in cc
    go false false ke be later = later

-- a part that was there is there under other definitions, where its type stays
part_kept : (limit : ℕ) (old new : Option KeyKind) (value : Option Tree) → ((kind : KeyKind) → old ≡ Some kind → new ≡ Some kind)
    → (part : KeyValue) → part_of limit old value ≡ Ok part → part_of limit new value ≡ Ok part
part_kept limit old new None same part is = cc
part_kept limit None new (Some value) same part is = cc
part_kept limit (Some kind) new (Some value) same part is = ap (λ (o : Option KeyKind). part_of limit o (Some value)) (same kind refl) ∙ is

-- ---- keys under another schema

abbrev KeepsTypes : KeyNames → List Definition → List Definition → Type 0
KeepsTypes keys old new = (name : List ℕ) → is_key_name keys name ≡ true → (kind : KeyKind) → kind_of name old ≡ Some kind → kind_of name new ≡ Some kind

itself : (name : List ℕ) → bytes_eq name name ≡ true
itself name = (bytes_eq-Decides name name).1 refl

behind_true : (b c : Bool) → c ≡ true → (b || c) ≡ true
behind_true true c e = refl
behind_true false c e = e

first_true : (b c : Bool) → b ≡ true → (b || c) ≡ true
first_true true c e = refl
first_true false c e = cc

sort_kept : (old new : Schema) (item : Attributes) (sort : Option (List ℕ))
    → ((name : List ℕ) → is_sort_name sort name ≡ true → (kind : KeyKind) → kind_of name old.definitions ≡ Some kind → kind_of name new.definitions ≡ Some kind)
    → (value : Option KeyValue) → sort_in old sort item ≡ Ok value → sort_in new sort item ≡ Ok value
sort_kept old new item None same value is = is
sort_kept old new item (Some name) same value is =
    go (part_in old 1024 name item) (part_in new 1024 name item) (part_kept 1024 (kind_of name old.definitions) (kind_of name new.definitions) (value_at name item) (same name (itself name))) is
  where
    go : (p q : Result KeyValue KeyFault) → ((part : KeyValue) → p ≡ Ok part → q ≡ Ok part)
        → result_map_both Some (λ fault. fault) p ≡ Ok value → result_map_both Some (λ fault. fault) q ≡ Ok value
    go (Ok part) q later e = rw (later part refl) e
    go (Err fault) q later e = cc

both_kept : (p q : Result KeyValue KeyFault) (s t : Result (Option KeyValue) KeyFault) (at : RowKey) → ((part : KeyValue) → p ≡ Ok part → q ≡ Ok part)
    → ((value : Option KeyValue) → s ≡ Ok value → t ≡ Ok value) → key_if (both key_from p s) ≡ Some at → key_if (both key_from q t) ≡ Some at
both_kept (Err fault) q s t at first second is = cc
both_kept (Ok part) q (Err fault) t at first second is = cc
both_kept (Ok part) q (Ok value) t at first second is = rw (first part refl, second value refl) is

at_key_kept : (old new : Schema) (keys : KeyNames) (at : RowKey) (item : Attributes) → KeepsTypes keys old.definitions new.definitions
    → IsAtKey old keys at item → IsAtKey new keys at item
unfolding key_in
at_key_kept old new keys at item same is =
    both_kept (part_in old 2048 keys.partition item) (part_in new 2048 keys.partition item) (sort_in old keys.sort item) (sort_in new keys.sort item) at
    (part_kept 2048 (kind_of keys.partition old.definitions) (kind_of keys.partition new.definitions) (value_at keys.partition item)
    (same keys.partition (first_true (bytes_eq keys.partition keys.partition) (is_sort_name keys.sort keys.partition) (itself keys.partition))))
    (sort_kept old new item keys.sort (λ name is_sort. same name (behind_true (bytes_eq keys.partition name) (is_sort_name keys.sort name) is_sort)))
    is

rows_kept : (old new : Schema) (rows : Rows) → new.keys ≡ old.keys → KeepsTypes old.keys old.definitions new.definitions → AreAtKeys old rows → AreAtKeys new rows
rows_kept old new [] keys same all = tt
rows_kept old new (row ∷ rows) keys same all = (
  subst (λ (k : KeyNames). IsAtKey new k row.0 row.1) (sym keys) (at_key_kept old new old.keys row.0 row.1 same all.0),
  rows_kept old new rows keys same all.1,
)

-- ---- tables changed

types_updated : (schema : Schema) (update : TableUpdate) → KeepsTypes schema.keys schema.definitions (updated_schema schema update).definitions
types_updated schema update name is_key kind is =
    kind_kept (is_used (record (updated_schema schema update) { definitions = with_definitions schema.definitions update.definitions })) name
    (with_definitions schema.definitions update.definitions)
    (first_true (is_key_name schema.keys name) (list_any (λ keys. is_key_name keys name) (index_keys (updated_schema schema update))) is_key)
    ∙ kind_with name kind schema.definitions update.definitions is

updated_keyed : (schema : Schema) (update : TableUpdate) (rows : Rows) → AreAtKeys schema rows → AreAtKeys (updated_schema schema update) rows
updated_keyed schema update rows all = rows_kept schema (updated_schema schema update) rows refl (types_updated schema update) all

changed_keyed : (db new : Database) (name : List ℕ) (table : Table) (schema : Schema) → table_named db name ≡ Some table → AreAtKeys schema table.rows
    → HasRowsAtKeys db → new ≡ with_table db name (record table { schema = schema }) → HasRowsAtKeys new
changed_keyed db new name table schema is rows all e = subst HasRowsAtKeys (sym e) (table_keyed db name (record table { schema = schema }) rows all)

same_keyed : (db new : Database) (reply : Reply) (refusal : Refusal) → HasRowsAtKeys db → (new, reply) ≡ refused db refusal → HasRowsAtKeys new
same_keyed db new reply refusal all e = subst HasRowsAtKeys (sym (ap (λ (p : Effect). p.0) e)) all

to_keyed : (db new : Database) (name : List ℕ) (table : Table) (schema : Schema) (reply : Reply) → table_named db name ≡ Some table → AreAtKeys schema table.rows
    → HasRowsAtKeys db → IsUpdatedTo db name table schema new reply → HasRowsAtKeys new
to_keyed db new name table schema (answer.Refused refusal) is rows all h = subst HasRowsAtKeys (sym h.0) all
to_keyed db new name table schema (answer.Described s) is rows all h = changed_keyed db new name table schema is rows all h.1
to_keyed db new name table schema (answer.Table s) is rows all h = changed_keyed db new name table schema is rows all h.1
to_keyed db new name table schema (answer.Tables s) is rows all h = changed_keyed db new name table schema is rows all h.1
to_keyed db new name table schema (answer.TimeToLiveSet s e) is rows all h = changed_keyed db new name table schema is rows all h.1
to_keyed db new name table schema (answer.TimeToLive s) is rows all h = changed_keyed db new name table schema is rows all h.1
to_keyed db new name table schema (answer.Written s c) is rows all h = changed_keyed db new name table schema is rows all h.1
to_keyed db new name table schema (answer.Read s c) is rows all h = changed_keyed db new name table schema is rows all h.1
to_keyed db new name table schema (answer.BatchRead s t c) is rows all h = changed_keyed db new name table schema is rows all h.1
to_keyed db new name table schema (answer.BatchWritten s c) is rows all h = changed_keyed db new name table schema is rows all h.1
to_keyed db new name table schema (answer.Page s c) is rows all h = changed_keyed db new name table schema is rows all h.1
to_keyed db new name table schema (answer.TransactWritten c) is rows all h = changed_keyed db new name table schema is rows all h.1
to_keyed db new name table schema (answer.TransactRead s c) is rows all h = changed_keyed db new name table schema is rows all h.1

contradicted_keyed : (b : Bool) (db new : Database) (reply : Reply) (P : Type 0) → HasRowsAtKeys db → (P → HasRowsAtKeys new) → IsBadlyDefinedOr b db new reply P → HasRowsAtKeys new
contradicted_keyed true db new reply P all later h = same_keyed db new reply _ all h
contradicted_keyed false db new reply P all later h = later h

refused_keyed : (o : Option Refusal) (db new : Database) (reply : Reply) (P : Type 0) → HasRowsAtKeys db → (P → HasRowsAtKeys new) → IsRefusedFirst o db new reply P → HasRowsAtKeys new
refused_keyed (Some refusal) db new reply P all later h = same_keyed db new reply refusal all h
refused_keyed None db new reply P all later h = later h

pub change_keyed : (db new : Database) (r : UpdateTable) (reply : Reply) → HasRowsAtKeys db → IsUpdateTable db r new reply → HasRowsAtKeys new
change_keyed db new r reply all h = go (table_named db r.table) refl h
  where
    go : (o : Option Table) → table_named db r.table ≡ o → IsUpdateIn db r o new reply → HasRowsAtKeys new
    go None is e = same_keyed db new reply _ all e
    go (Some t) is e =
        refused_keyed (index_refusal t.schema r.update.index) db new reply _ all
        (contradicted_keyed (has_bad_definition t.schema.definitions r.update.definitions) db new reply _ all
        (to_keyed db new r.table t (updated_schema t.schema r.update) reply is (updated_keyed t.schema r.update t.rows (named_keyed db r.table t is all)) all)) e

-- ---- time to live

pub ttl_keyed : (db : Database) (r : UpdateTimeToLive) → HasRowsAtKeys db → HasRowsAtKeys (update_time_to_live db r).0
ttl_keyed db r all =
    in_keyed db r.table (table_named db r.table) _ all
    (λ t is. unless_keyed db (ttl_refusal t.schema r) _ all
    (λ none. table_keyed db r.table (record t { schema = with_ttl t.schema r })
    (rows_kept t.schema (with_ttl t.schema r) t.rows refl (λ name is_key kind has. has) (named_keyed db r.table t is all)) all))

pub describe_ttl_keyed : (db : Database) (r : DescribeTimeToLive) → HasRowsAtKeys db → HasRowsAtKeys (describe_time_to_live db r).0
describe_ttl_keyed db r all = in_keyed db r.table (table_named db r.table) _ all (λ t is. all)

fresh_keyed : (schema : Schema) (p : RowKey × Attributes → Bool) (rows : Rows) → AreAtKeys schema rows → AreAtKeys schema (filter p rows)
fresh_keyed schema p [] all = tt
fresh_keyed schema p (row ∷ rows) all = go (p row) (fresh_keyed schema p rows all.1)
  where
    go : (b : Bool) → AreAtKeys schema (filter p rows) → AreAtKeys schema (cond b (row ∷ filter p rows) (filter p rows))
    go true rest = (all.0, rest)
    go false rest = rest

-- what is left where expired items are gone
pub swept_keyed : (second : ℕ) (tables : List (List ℕ × Table)) → AreKeyed tables → AreKeyed (swept_tables second tables)
swept_keyed second [] all = tt
swept_keyed second (e ∷ es) all = (fresh_keyed e.1.schema _ e.1.rows all.0, swept_keyed second es all.1)
