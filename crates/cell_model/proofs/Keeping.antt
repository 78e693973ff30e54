-- Catalogs that were made stay so, and nothing in them counts for nothing.
use Rattle.std.specs.Prelude.{bytes_eq, if◌then◌else◌}
use Rattle.std.specs.List.{AllByRecursion, list_all}
use Rattle.std.specs.List.Sorted.{IsStrictlySortedBy}
use Rattle.std.specs.Cmp.{Equal-is}
use Rattle.std.specs.Cmp.Lexicographic.{slice_cmp, nat_list_cmp_total}
use Rattle.std.specs.Ordering.{nat_cmp, is_lt, ordering_reverse}
use Rattle.std.specs.declared.cmp.Ordering.{Ordering}
use Rattle.std.specs.declared.cmp.Ordering.TheVariants as order
use Rattle.std.proofs.Common.{◌≡◌, ℕ, Bool, true, false, ◌&&◌, ◌||◌, List, [], ◌∷◌, ◌++◌, map, Option, None, Some, is_some, refl, sym, ap, subst, ◌∙◌}
use Rattle.std.proofs.lemmas.Bool.{cond_both, cond-true, and_parts, and_from}
use Rattle.std.proofs.lemmas.Map.Lookups.{exact_bytes}
use Rattle.std.proofs.lemmas.Slice.Eq.{bytes_eq-Decides}
use Rattle.table_schema.specs.declared.definition.Definition.{Definition}
use Rattle.table_schema.specs.declared.index.GlobalIndex.{GlobalIndex}
use Rattle.table_schema.specs.declared.index.LocalIndex.{LocalIndex}
use Rattle.table_schema.specs.declared.keys.KeyNames.{KeyNames}
use Rattle.table_schema.specs.declared.schema.Schema.{Schema}
use Rattle.table_schema.specs.declared.stated.StatedIndex.{StatedIndex}
use Rattle.table_schema.specs.declared.fault.SchemaFault.{SchemaFault}
use Rattle.table_schema.specs.declared.fault.SchemaFault.TheVariants.{BadName, BadKeySchema, BadDefinition, DefinitionMismatch, BadIndexName, BadIndexKey, BadProjection, TooManyIndexes}
use Rattle.table_schema.specs.Index.{stated_of, of_local, of_global}
use Rattle.table_schema.specs.Key.{elements_of}
use Rattle.table_schema.specs.Kind.{kind_of}
use Rattle.table_schema.specs.NameSet.{has, is_same}
use Rattle.table_schema.specs.Rule.{IsFreeOf, IsValid, DefinesItsKeys, Defines, IsKeyAttribute}
use Rattle.table_model.specs.Catalog.{made_at}
use Rattle.cell_model.specs.declared.catalog.CatalogTable.{CatalogTable}
use Rattle.cell_model.specs.Catalogs.{named, entered}
use Rattle.cell_model.specs.Commands.{expiring, has_sort_kind, has_kinds, is_typed}
use Rattle.cell_model.specs.FirstFault.{defines, defines_key, defines_keys, is_in_key, is_free_of}
use Rattle.cell_model.specs.KeptCatalogs.{names_of}
use Rattle.cell_model.proofs.FaultTests.{tells}
use Rattle.cell_model.proofs.Making.{each_weaker, each_entered}

-- ---- valid schemas

-- the moment at which a table is made breaks no rule
pub made_valid : (schema : Schema) (moment : ℕ) → IsValid schema → IsValid (made_at moment schema)
unfolding DefinesItsKeys Defines IsKeyAttribute
made_valid schema moment valid fault = go fault (valid fault)
  where
    go : (fault : SchemaFault) → IsFreeOf fault (stated_of schema) → IsFreeOf fault (stated_of (made_at moment schema))
    go BadName h = h
    go BadKeySchema h = h
    go BadDefinition h = record { named = h.named; distinct = h.distinct }
    go DefinitionMismatch h = h
    go BadIndexName h = record { named = h.named; distinct = h.distinct }
    go BadIndexKey h = record { keys = h.keys; local = h.local }
    go BadProjection h = h
    go TooManyIndexes h = record { local = h.local; global = h.global }

-- nor does a time to live
pub expiring_valid : (schema : Schema) (attribute : List ℕ) (enabled : Bool) → IsValid schema → IsValid (expiring schema attribute enabled)
unfolding DefinesItsKeys Defines IsKeyAttribute
expiring_valid schema attribute enabled valid fault = go fault (valid fault)
  where
    go : (fault : SchemaFault) → IsFreeOf fault (stated_of schema) → IsFreeOf fault (stated_of (expiring schema attribute enabled))
    go BadName h = h
    go BadKeySchema h = h
    go BadDefinition h = record { named = h.named; distinct = h.distinct }
    go DefinitionMismatch h = h
    go BadIndexName h = record { named = h.named; distinct = h.distinct }
    go BadIndexKey h = record { keys = h.keys; local = h.local }
    go BadProjection h = h
    go TooManyIndexes h = record { local = h.local; global = h.global }

-- a name that is defined has a type
typed_name : (name : List ℕ) (ds : List Definition) → has (map (λ d. d.name) ds) name ≡ true → is_some (kind_of name ds) ≡ true
typed_name name [] h = absurd (cc)
typed_name name (d ∷ ds) h = go (is_same name d.name) refl h (typed_name name ds)
  where
    go : (b : Bool) → is_same name d.name ≡ b → (b || has (map (λ d. d.name) ds) name) ≡ true → (has (map (λ d. d.name) ds) name ≡ true → is_some (kind_of name ds) ≡ true)
        → is_some (if bytes_eq d.name name then Some d.kind else kind_of name ds) ≡ true
    go true e t rest =
        let same : name ≡ d.name = exact_bytes name d.name ((Equal-is (slice_cmp nat_cmp name d.name)).0 e) in
        ap is_some (cond-true (bytes_eq d.name name) (Some d.kind) _ ((bytes_eq-Decides d.name name).1 (sym same)))
    go false e t rest = cond_both (bytes_eq d.name name) (Some d.kind) (kind_of name ds) (λ o. is_some o ≡ true) (λ _. refl) (λ _. rest t)

defined : (schema : Schema) (name : List ℕ) → defines (stated_of schema) name ≡ true → is_some (kind_of name schema.definitions) ≡ true
unfolding defines
defined schema name h = typed_name name schema.definitions h

typed_key : (schema : Schema) (keys : KeyNames) → defines_key (stated_of schema) (elements_of keys) ≡ true → has_kinds schema keys ≡ true
unfolding defines_key
typed_key schema keys h = go keys.partition keys.sort h
  where
    go : (partition : List ℕ) (sort : Option (List ℕ)) → list_all (λ e. defines (stated_of schema) e.name) (elements_of (record { partition = partition; sort = sort })) ≡ true
        → (is_some (kind_of partition schema.definitions) && has_sort_kind schema sort) ≡ true
    go partition None h = and_from _ true (defined schema partition (and_parts (defines (stated_of schema) partition) true h).0) refl
    go partition (Some sort) h =
        let p = and_parts (defines (stated_of schema) partition) (defines (stated_of schema) sort && true) h in
        let q = and_parts (defines (stated_of schema) sort) true p.1 in
        and_from (is_some (kind_of partition schema.definitions)) (is_some (kind_of sort schema.definitions)) (defined schema partition p.0) (defined schema sort q.0)

behind : {X : Type 0} (f : X → Bool) (xs ys : List X) → list_all f (xs ++ ys) ≡ true → list_all f ys ≡ true
behind f [] ys h = h
behind f (x ∷ xs) ys h = behind f xs ys (and_parts (f x) (list_all f (xs ++ ys)) h).1

front : {X : Type 0} (f : X → Bool) (xs ys : List X) → list_all f (xs ++ ys) ≡ true → list_all f xs ≡ true
front f [] ys h = refl
front f (x ∷ xs) ys h = let p = and_parts (f x) (list_all f (xs ++ ys)) h in and_from (f x) (list_all f xs) p.0 (front f xs ys p.1)

-- where the keys of each index, as it was stated, are defined, they have types
each_typed : {X : Type 0} (schema : Schema) (keys : X → KeyNames) (stated : X → StatedIndex) (same : (x : X) → (stated x).keys ≡ elements_of (keys x)) (xs : List X)
    → list_all (λ (i : StatedIndex). defines_key (stated_of schema) i.keys) (map stated xs) ≡ true → list_all (λ x. has_kinds schema (keys x)) xs ≡ true
each_typed schema keys stated same [] h = refl
each_typed schema keys stated same (x ∷ xs) h =
    let p = and_parts (defines_key (stated_of schema) (stated x).keys) _ h in
    let typed = typed_key schema (keys x) (subst (λ k. defines_key (stated_of schema) k ≡ true) (same x) p.0) in
    and_from (has_kinds schema (keys x)) _ typed (each_typed schema keys stated same xs p.1)

-- the index keys of a valid schema have types
pub valid_typed : (schema : Schema) → IsValid schema → is_typed schema ≡ true
unfolding is_free_of defines_keys
valid_typed schema valid =
    let stated = stated_of schema in
    let free = (tells stated DefinitionMismatch).1 (valid DefinitionMismatch) in
    let all = (and_parts (list_all (λ d. is_in_key stated d.name) stated.definitions) (defines_keys stated) free).1 in
    let indexes = (and_parts (defines_key stated stated.keys) (list_all (λ (i : StatedIndex). defines_key stated i.keys) (map of_local schema.locals ++ map of_global schema.globals)) all).1 in
    and_from (list_all (λ index. has_kinds schema index.keys) schema.locals) (list_all (λ index. has_kinds schema index.keys) schema.globals)
    (each_typed schema (λ (index : LocalIndex). index.keys) of_local (λ _. refl) schema.locals (front (λ (i : StatedIndex). defines_key stated i.keys) (map of_local schema.locals) (map of_global schema.globals) indexes))
    (each_typed schema (λ (index : GlobalIndex). index.keys) of_global (λ _. refl) schema.globals (behind (λ (i : StatedIndex). defines_key stated i.keys) (map of_local schema.locals) (map of_global schema.globals) indexes))

-- ---- one name more

names_each : (P : List ℕ → Type 0) (ts : List CatalogTable) → AllByRecursion P (names_of ts) → AllByRecursion (λ t. P t.schema.name) ts
names_each P [] h = tt
names_each P (t ∷ ts) h = (h.0, names_each P ts h.1)

each_name : (P : List ℕ → Type 0) (ts : List CatalogTable) → AllByRecursion (λ t. P t.schema.name) ts → AllByRecursion P (names_of ts)
each_name P [] h = tt
each_name P (t ∷ ts) h = (h.0, each_name P ts h.1)

pub ordered_entered : (t : CatalogTable) (ts : List CatalogTable) → named ts t.schema.name ≡ None → IsStrictlySortedBy (slice_cmp nat_cmp) (names_of ts)
    → IsStrictlySortedBy (slice_cmp nat_cmp) (names_of (entered t ts))
unfolding IsStrictlySortedBy
ordered_entered t [] absent h = (tt, tt)
ordered_entered t (u ∷ us) absent h =
    let others = away absent in
    go (slice_cmp nat_cmp t.schema.name u.schema.name) refl (ordered_entered t us others.1 h.1)
  where
    away : (if bytes_eq u.schema.name t.schema.name then Some u else named us t.schema.name) ≡ None → (bytes_eq u.schema.name t.schema.name ≡ false) × (named us t.schema.name ≡ None)
    away = cases (bytes_eq u.schema.name t.schema.name)
      where
        cases : (b : Bool) → (if b then Some u else named us t.schema.name) ≡ None → (b ≡ false) × (named us t.schema.name ≡ None)
        cases true e = absurd (cc)
        cases false e = (refl, e)

    go : (o : Ordering) → slice_cmp nat_cmp t.schema.name u.schema.name ≡ o
        → IsStrictlySortedBy (slice_cmp nat_cmp) (names_of (entered t us))
        → IsStrictlySortedBy (slice_cmp nat_cmp) (names_of (if is_lt (slice_cmp nat_cmp t.schema.name u.schema.name) then t ∷ u ∷ us else u ∷ entered t us))
    go order.Less e rest =
        subst (λ b. IsStrictlySortedBy (slice_cmp nat_cmp) (names_of (if b then t ∷ u ∷ us else u ∷ entered t us))) (sym (ap is_lt e))
        ((e, each_weaker (λ y. nat_list_cmp_total.trans t.schema.name u.schema.name y e) (names_of us) h.0), h)
    go order.Equal e rest =
        let same : t.schema.name ≡ u.schema.name = exact_bytes t.schema.name u.schema.name e in
        let hit : bytes_eq u.schema.name t.schema.name ≡ true = (bytes_eq-Decides u.schema.name t.schema.name).1 (sym same) in
        absurd (let clash : true ≡ false = sym hit ∙ (away absent).0 in cc)
    go order.Greater e rest =
        let above : slice_cmp nat_cmp u.schema.name t.schema.name ≡ order.Less = nat_list_cmp_total.antisymm u.schema.name t.schema.name ∙ ap ordering_reverse e in
        subst (λ b. IsStrictlySortedBy (slice_cmp nat_cmp) (names_of (if b then t ∷ u ∷ us else u ∷ entered t us))) (sym (ap is_lt e)) (
          each_name (λ y. slice_cmp nat_cmp u.schema.name y ≡ order.Less) (entered t us)
              (each_entered (λ x. slice_cmp nat_cmp u.schema.name x.schema.name ≡ order.Less) t us above (names_each (λ y. slice_cmp nat_cmp u.schema.name y ≡ order.Less) us h.0)),
          rest,
        )
