-- The keys of a request's rows, table after table; and that a refusal goes by the schemas of the request's tables alone.
use Rattle.std.proofs.Common.{◌≡◌, ℕ, List, [], ◌∷◌, ◌++◌, map, Bool, ◌||◌, Option, None, Some, option_map, Result, Ok, Err, refl, sym, ap, ◌∙◌}
use Rattle.std.specs.Prelude.{filter_map}
use Rattle.std.specs.List.{AllByRecursion, list_any, flat_map}
use Rattle.std.proofs.lemmas.List.{map-append}
use Rattle.item_keys.specs.declared.fault.KeyFault.{KeyFault}
use Rattle.item_keys.specs.declared.key.Key.{Key}
use Rattle.item_keys.specs.ItemKey.{key_alone}
use Rattle.row_keys.specs.declared.row_key.RowKey.{RowKey}
use Rattle.row_keys.specs.Rows.{is_refused}
use Rattle.table_schema.specs.declared.schema.Schema.{Schema}
use Rattle.update_eval.specs.declared.fault.EvalFault.TheVariants.{IndexKey}
use Rattle.table_request.specs.declared.batches.TableKeys.{TableKeys}
use Rattle.table_request.specs.declared.batches.TableWrites.{TableWrites}
use Rattle.table_request.specs.declared.batches.WriteRequest.{WriteRequest}
use Rattle.table_request.specs.declared.batches.WriteRequest.TheVariants.{Put, Delete}
use Rattle.table_model.specs.declared.refusal.Refusal.{Refusal}
use Rattle.table_model.specs.declared.refusal.Refusal.TheVariants.{Invalid}
use Rattle.table_model.specs.declared.refusal.Invalid.TheVariants as invalid
use Rattle.table_model.specs.Database.{Database, Table, table_named, first, where_true}
use Rattle.table_model.specs.Batches.{missing, missing_if, key_refusal, place_if, has_twice, asked_keys, asked_keys_if, write_keys, write_keys_if, write_key, is_oversized, is_unfit_write, batch_get_refusal, batch_write_refusal}
use Rattle.table_batches.specs.Keys.{gathered, AreKeysOf, ArePushed}
use Rattle.table_batches.proofs.Refusals.{Asking, one_table}
use Rattle.table_batches.proofs.Writing.{key_by}

-- ---- keys, table after table

abbrev pub keyed : List RowKey → Result (List RowKey) KeyFault
keyed keys = Ok keys

abbrev pub gathered_of : {T : Type 0} → (T → List (Result Key KeyFault)) → T → List (Result (List RowKey) KeyFault)
gathered_of keys_of t = gathered (keys_of t) ∷ []

module _ {T : Type 0} (keys_of : T → List (Result Key KeyFault)) where
  pub part_pushed :
      (ts : List T) (t : T) (rest : List T) (old new : List (List RowKey)) (twice repeats : Bool) → ArePushed (keys_of t) (Ok repeats) old new
      → Asking keys_of (gathered_of keys_of) ts (t ∷ rest) (map keyed old) twice
      → Asking keys_of (gathered_of keys_of) ts rest (map keyed new) (twice || repeats)
  part_pushed ts t rest old new twice repeats pushed before =
      one_table keys_of (gathered_of keys_of) ts t rest (map keyed old) (map keyed new) twice repeats (
        pushed.0,
        pushed.1,
        pushed.2,
        ap (map keyed) pushed.3 ∙ map-append keyed old (pushed.0 ∷ []) ∙ ap (λ r. map keyed old ++ r ∷ []) (sym pushed.1),
      ) before

  -- those that were gathered are the keys of each part
  pub keys_are : (ts : List T) (all : List (List RowKey)) → map keyed all ≡ flat_map (gathered_of keys_of) ts → AreKeysOf keys_of ts all
  keys_are [] [] is = tt
  keys_are [] (keys ∷ all) is = absurd (cc)
  keys_are (t ∷ ts) [] is = absurd (cc)
  keys_are (t ∷ ts) (keys ∷ all) is =
      let here : gathered (keys_of t) ≡ keyed keys = cc in
      let rest : map keyed all ≡ flat_map (gathered_of keys_of) ts = cc in
      (here, keys_are ts all rest)

-- ---- what is alike for each of a list

module _ {T X : Type 0} (Same : T → Type 0) where
  map_alike : (f g : T → X) → ((t : T) → Same t → f t ≡ g t) → (ts : List T) → AllByRecursion Same ts → map f ts ≡ map g ts
  map_alike f g alike [] all = refl
  map_alike f g alike (t ∷ ts) all = λ i. alike t all.0 i ∷ map_alike f g alike ts all.1 i

  flat_alike : (f g : T → List X) → ((t : T) → Same t → f t ≡ g t) → (ts : List T) → AllByRecursion Same ts → flat_map f ts ≡ flat_map g ts
  flat_alike f g alike [] all = refl
  flat_alike f g alike (t ∷ ts) all = λ i. alike t all.0 i ++ flat_alike f g alike ts all.1 i

any_alike : {T : Type 0} (Same : T → Type 0) (f g : T → Bool) → ((t : T) → Same t → f t ≡ g t) → (ts : List T) → AllByRecursion Same ts
    → list_any f ts ≡ list_any g ts
any_alike Same f g alike [] all = refl
any_alike Same f g alike (t ∷ ts) all = λ i. alike t all.0 i || any_alike Same f g alike ts all.1 i

-- ---- tables of one schema

abbrev pub schema_in : Option Table → Option Schema
schema_in o = option_map (λ t. t.schema) o

-- both databases have a table of one schema under the name, or none
abbrev pub AlikeAt : Database → Database → List ℕ → Type 0
AlikeAt db other name = schema_in (table_named db name) ≡ schema_in (table_named other name)

missing_alike : (name : List ℕ) (o p : Option Table) → schema_in o ≡ schema_in p → missing_if name o ≡ missing_if name p
missing_alike name None None is = refl
missing_alike name None (Some y) is = absurd (cc)
missing_alike name (Some x) None is = absurd (cc)
missing_alike name (Some x) (Some y) is = refl

same_schema : (x y : Schema) → Some x ≡ Some y → x ≡ y
same_schema x y e = cc

asked_alike : (t : TableKeys) (o p : Option Table) → schema_in o ≡ schema_in p → asked_keys_if o t ≡ asked_keys_if p t
asked_alike t None None is = refl
asked_alike t None (Some y) is = absurd (cc)
asked_alike t (Some x) None is = absurd (cc)
asked_alike t (Some x) (Some y) is = ap (λ s. map (λ key. key_alone s s.keys key) t.keys) (same_schema x.schema y.schema is)

written_alike : (t : TableWrites) (o p : Option Table) → schema_in o ≡ schema_in p → write_keys_if o t ≡ write_keys_if p t
written_alike t None None is = refl
written_alike t None (Some y) is = absurd (cc)
written_alike t (Some x) None is = absurd (cc)
written_alike t (Some x) (Some y) is = λ i. map (λ write. key_by x y write (same_schema x.schema y.schema is) i) t.writes

unfit_alike : (write : WriteRequest) (o p : Option Table) → schema_in o ≡ schema_in p → is_unfit_write o write ≡ is_unfit_write p write
unfit_alike (Put item) None None is = refl
unfit_alike (Put item) None (Some y) is = absurd (cc)
unfit_alike (Put item) (Some x) None is = absurd (cc)
unfit_alike (Put item) (Some x) (Some y) is = ap (λ s. is_refused s item) (same_schema x.schema y.schema is)
unfit_alike (Delete key) None None is = refl
unfit_alike (Delete key) None (Some y) is = refl
unfit_alike (Delete key) (Some x) None is = refl
unfit_alike (Delete key) (Some x) (Some y) is = refl

module _ (db other : Database) where
  -- reads are refused alike
  pub gets_alike : (ts : List TableKeys) → AllByRecursion (λ t. AlikeAt db other t.table) ts → batch_get_refusal db ts ≡ batch_get_refusal other ts
  gets_alike ts all =
      let Same = λ (t : TableKeys). AlikeAt db other t.table in
      let tables = map_alike Same (λ t. missing db t.table) (λ t. missing other t.table) (λ t is. missing_alike t.table (table_named db t.table) (table_named other t.table) is) ts all in
      let one = λ (t : TableKeys) (is : Same t). asked_alike t (table_named db t.table) (table_named other t.table) is in
      let keys = flat_alike Same (asked_keys db) (asked_keys other) one ts all in
      let twice = any_alike Same (λ t. has_twice (filter_map place_if (asked_keys db t))) (λ t. has_twice (filter_map place_if (asked_keys other t)))
      (λ t is. ap (λ ks. has_twice (filter_map place_if ks)) (one t is)) ts all in
      λ i. first (first (tables i) ∷ first (map key_refusal (keys i)) ∷ where_true (twice i) (Invalid invalid.Twice) ∷ [])

  -- so are writes
  pub writes_alike : (ts : List TableWrites) → AllByRecursion (λ t. AlikeAt db other t.table) ts → batch_write_refusal db ts ≡ batch_write_refusal other ts
  writes_alike ts all =
      let Same = λ (t : TableWrites). AlikeAt db other t.table in
      let tables = map_alike Same (λ t. missing db t.table) (λ t. missing other t.table) (λ t is. missing_alike t.table (table_named db t.table) (table_named other t.table) is) ts all in
      let one = λ (t : TableWrites) (is : Same t). written_alike t (table_named db t.table) (table_named other t.table) is in
      let keys = flat_alike Same (write_keys db) (write_keys other) one ts all in
      let twice = any_alike Same (λ t. has_twice (filter_map place_if (write_keys db t))) (λ t. has_twice (filter_map place_if (write_keys other t)))
      (λ t is. ap (λ ks. has_twice (filter_map place_if ks)) (one t is)) ts all in
      let unfit = any_alike Same (λ t. list_any (is_unfit_write (table_named db t.table)) t.writes) (λ t. list_any (is_unfit_write (table_named other t.table)) t.writes)
      (λ t is i. list_any (λ write. unfit_alike write (table_named db t.table) (table_named other t.table) is i) t.writes) ts all in
      λ i. first
      (first (tables i) ∷ first (map key_refusal (keys i)) ∷ where_true (twice i) (Invalid invalid.Twice)
      ∷ where_true (list_any (λ t. list_any is_oversized t.writes) ts) (Invalid invalid.ItemTooLarge) ∷ where_true (unfit i) (Invalid (invalid.Evaluation IndexKey))
      ∷ [])
