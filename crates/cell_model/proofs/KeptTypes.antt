-- An update leaves the types of the keys that stay.
use Rattle.std.specs.Prelude.{bytes_eq, if◌then◌else◌}
use Rattle.std.specs.List.{list_any}
use Rattle.std.proofs.Common.{◌≡◌, ℕ, Bool, true, false, ◌||◌, List, [], ◌∷◌, ◌++◌, filter, map, Option, None, Some, is_some, Result, refl, sym, ap, subst, ◌∙◌}
use Rattle.std.specs.Result.{result_map_both}
use Rattle.std.proofs.lemmas.Bool.{cond-true, cond-false, and_parts, or_left, or_right}
use Rattle.std.proofs.lemmas.Slice.Eq.{bytes_eq-Decides}
use Rattle.attr_value.specs.Tree.{Attributes}
use Rattle.attr_value.specs.Paths.{value_at}
use Rattle.table_schema.specs.declared.definition.Definition.{Definition}
use Rattle.table_schema.specs.declared.definition.KeyKind.{KeyKind}
use Rattle.table_schema.specs.declared.keys.KeyNames.{KeyNames}
use Rattle.table_schema.specs.declared.schema.Schema.{Schema}
use Rattle.table_schema.specs.Kind.{kind_of}
use Rattle.table_schema.specs.KeyName.{is_key_name, is_sort_name}
use Rattle.table_request.specs.declared.tables.TableUpdate.{TableUpdate}
use Rattle.table_schema.specs.declared.index.GlobalIndex.{GlobalIndex}
use Rattle.item_keys.specs.declared.value.KeyValue.{KeyValue}
use Rattle.item_keys.specs.declared.fault.KeyFault.{KeyFault}
use Rattle.item_keys.specs.ItemKey.{key_in, part_in, part_of, sort_in, key_from, both}
use Rattle.table_model.specs.Catalog.{added_if, with_definitions, changed_indexes, updated_schema}
use Rattle.cell_model.specs.Commands.{has_kinds, has_sort_kind}

-- a name that has a type has it after more definitions
behind : (name : List ℕ) (known more : List Definition) → is_some (kind_of name known) ≡ true → kind_of name (known ++ more) ≡ kind_of name known
behind name [] more h = absurd (cc)
behind name (d ∷ ds) more h = go (bytes_eq d.name name) h (behind name ds more)
  where
    go : (b : Bool) → is_some (if b then Some d.kind else kind_of name ds) ≡ true → (is_some (kind_of name ds) ≡ true → kind_of name (ds ++ more) ≡ kind_of name ds)
        → (if b then Some d.kind else kind_of name (ds ++ more)) ≡ (if b then Some d.kind else kind_of name ds)
    go true t rest = refl
    go false t rest = rest t

added : (o : Option KeyKind) (d : Definition) (name : List ℕ) (known : List Definition) → is_some (kind_of name known) ≡ true
    → kind_of name (added_if o d known) ≡ kind_of name known
added None d name known h = behind name known (d ∷ []) h
added (Some kind) d name known h = refl

defined : (name : List ℕ) (known more : List Definition) → is_some (kind_of name known) ≡ true → kind_of name (with_definitions known more) ≡ kind_of name known
defined name known [] h = refl
defined name known (d ∷ ds) h =
    let first = added (kind_of d.name known) d name known h in
    defined name (added_if (kind_of d.name known) d known) ds (ap is_some first ∙ h) ∙ first

-- a name that passes keeps its type where definitions are dropped whose names don't
passing : (passes : List ℕ → Bool) (name : List ℕ) (ds : List Definition) → passes name ≡ true
    → kind_of name (filter (λ d. passes d.name) ds) ≡ kind_of name ds
passing passes name [] h = refl
passing passes name (d ∷ ds) h = go (bytes_eq d.name name) refl (passes d.name) refl (passing passes name ds h)
  where
    go : (b : Bool) → bytes_eq d.name name ≡ b → (p : Bool) → passes d.name ≡ p → kind_of name (filter (λ d. passes d.name) ds) ≡ kind_of name ds
        → kind_of name (if p then d ∷ filter (λ d. passes d.name) ds else filter (λ d. passes d.name) ds) ≡ (if b then Some d.kind else kind_of name ds)
    go true e true f rest = cond-true (bytes_eq d.name name) (Some d.kind) _ e
    go false e true f rest = cond-false (bytes_eq d.name name) (Some d.kind) _ e ∙ rest
    go true e false f rest = let same : d.name ≡ name = (bytes_eq-Decides d.name name).0 e in absurd (let clash : true ≡ false = sym h ∙ sym (ap passes same) ∙ f in cc)
    go false e false f rest = rest

-- what a key's test says of mapped and joined lists
mapped : {X Y : Type 0} (f : Y → Bool) (g : X → Y) (xs : List X) → list_any f (map g xs) ≡ list_any (λ x. f (g x)) xs
mapped f g [] = refl
mapped f g (x ∷ xs) = ap (λ b. f (g x) || b) (mapped f g xs)

joined : {X : Type 0} (f : X → Bool) (xs ys : List X) → list_any f ys ≡ true → list_any f (xs ++ ys) ≡ true
joined f [] ys h = h
joined f (x ∷ xs) ys h = or_right (f x) (list_any f (xs ++ ys)) (joined f xs ys h)

in_front : {X : Type 0} (f : X → Bool) (xs ys : List X) → list_any f xs ≡ true → list_any f (xs ++ ys) ≡ true
in_front f [] ys h = absurd (cc)
in_front f (x ∷ xs) ys h = go (f x) h (in_front f xs ys)
  where
    go : (b : Bool) → (b || list_any f xs) ≡ true → (list_any f xs ≡ true → list_any f (xs ++ ys) ≡ true) → (b || list_any f (xs ++ ys)) ≡ true
    go true t rest = refl
    go false t rest = rest t

-- a name in the key of one of these indexes
abbrev pub is_in_keys : List ℕ → List GlobalIndex → Bool
is_in_keys name globals = list_any (λ index. is_key_name index.keys name) globals

-- ---- keys of items

both_alike : (p q : Result KeyValue KeyFault) (s t : Result (Option KeyValue) KeyFault) → p ≡ q → s ≡ t → both key_from p s ≡ both key_from q t
both_alike p q s t e f = λ i. both key_from (e i) (f i)

module _ (old new : Schema) (item : Attributes) where
  abbrev SameKind : List ℕ → Type 0
  SameKind name = kind_of name new.definitions ≡ kind_of name old.definitions

  part_alike : (limit : ℕ) (name : List ℕ) → SameKind name → part_in new limit name item ≡ part_in old limit name item
  part_alike limit name same = ap (λ kind. part_of limit kind (value_at name item)) same

  sort_alike : (sort : Option (List ℕ)) → ((name : List ℕ) → is_sort_name sort name ≡ true → SameKind name) → sort_in new sort item ≡ sort_in old sort item
  sort_alike None same = refl
  sort_alike (Some name) same = ap (result_map_both Some (λ fault. fault)) (part_alike 1024 name (same name ((bytes_eq-Decides name name).1 refl)))

  -- where the names of a key have the types that they had, an item has the key that it had
  pub key_alike : (keys : KeyNames) → ((name : List ℕ) → is_key_name keys name ≡ true → kind_of name new.definitions ≡ kind_of name old.definitions)
      → key_in new keys item ≡ key_in old keys item
  unfolding key_in
  key_alike keys same =
      let own : bytes_eq keys.partition keys.partition ≡ true = (bytes_eq-Decides keys.partition keys.partition).1 refl in
      both_alike _ _ _ _ (part_alike 2048 keys.partition (same keys.partition (or_left _ _ own)))
      (sort_alike keys.sort (λ name sorts. same name (or_right (bytes_eq keys.partition name) (is_sort_name keys.sort name) sorts)))

-- a name of a key whose attributes have types has one
pub kind_known : (schema : Schema) (keys : KeyNames) (name : List ℕ) → has_kinds schema keys ≡ true → is_key_name keys name ≡ true
    → is_some (kind_of name schema.definitions) ≡ true
kind_known schema keys name known names =
    let p = and_parts (is_some (kind_of keys.partition schema.definitions)) (has_sort_kind schema keys.sort) known in
    go keys.sort p.1 (bytes_eq keys.partition name) refl names p.0
  where
    go : (sort : Option (List ℕ)) → has_sort_kind schema sort ≡ true → (b : Bool) → bytes_eq keys.partition name ≡ b → (b || is_sort_name sort name) ≡ true
        → is_some (kind_of keys.partition schema.definitions) ≡ true → is_some (kind_of name schema.definitions) ≡ true
    go sort kind true e h first = subst (λ x. is_some (kind_of x schema.definitions) ≡ true) ((bytes_eq-Decides keys.partition name).0 e) first
    go None kind false e h first = absurd (cc)
    go (Some other) kind false e h first = subst (λ x. is_some (kind_of x schema.definitions) ≡ true) ((bytes_eq-Decides other name).0 h) kind

module _ (schema : Schema) (update : TableUpdate) where
  -- the keys of all indexes that the schema has afterwards
  abbrev all_keys : List KeyNames
  all_keys = map (λ index. index.keys) schema.locals ++ map (λ index. index.keys) (changed_indexes update.index schema.globals)

  -- a name in the key of one of these
  abbrev pub is_left : List ℕ → Bool
  is_left name = list_any (λ keys. is_key_name keys name) all_keys

  pub left_of_global : (name : List ℕ) → is_in_keys name (changed_indexes update.index schema.globals) ≡ true → is_left name ≡ true
  left_of_global name used =
      joined (λ keys. is_key_name keys name) (map (λ index. index.keys) schema.locals) _
      (mapped (λ keys. is_key_name keys name) (λ index. index.keys) (changed_indexes update.index schema.globals) ∙ used)

  pub left_of_local : (name : List ℕ) → list_any (λ index. is_key_name index.keys name) schema.locals ≡ true → is_left name ≡ true
  left_of_local name used =
      in_front (λ keys. is_key_name keys name) (map (λ index. index.keys) schema.locals) _
      (mapped (λ keys. is_key_name keys name) (λ index. index.keys) schema.locals ∙ used)

  -- a name of the table's key, or of one of these, keeps its type
  pub kept_kind : (name : List ℕ) → is_some (kind_of name schema.definitions) ≡ true → (is_key_name schema.keys name || is_left name) ≡ true
      → kind_of name (updated_schema schema update).definitions ≡ kind_of name schema.definitions
  kept_kind name known used =
      passing (λ n. is_key_name schema.keys n || list_any (λ keys. is_key_name keys n) all_keys)
      name (with_definitions schema.definitions update.definitions) used
      ∙ defined name schema.definitions update.definitions known

  -- an item has the key that it had, in an index that stays and whose key has types
  pub kept_key : (keys : KeyNames) (item : Attributes) → has_kinds schema keys ≡ true
      → ((name : List ℕ) → is_key_name keys name ≡ true → is_left name ≡ true)
      → key_in (updated_schema schema update) keys item ≡ key_in schema keys item
  kept_key keys item known used =
      key_alike schema (updated_schema schema update) item keys
      (λ name names. kept_kind name (kind_known schema keys name known names) (or_right (is_key_name schema.keys name) (is_left name) (used name names)))
