-- An update of a table leaves the types of the attributes of its key and of its local indexes.
use Rattle.std.specs.Prelude.{bytes_eq}
use Rattle.std.specs.List.{Any, list_any, list_all}
use Rattle.std.proofs.Common.{◌≡◌, ℕ, Bool, true, false, ◌||◌, List, [], ◌∷◌, Option, None, Some, is_some, refl, inl, inr}
use Rattle.std.proofs.lemmas.Bool.{cond_both, cond-true, and_parts}
use Rattle.std.proofs.lemmas.Slice.Eq.{bytes_eq-Decides}
use Rattle.std.proofs.Common.{ap}
use Rattle.table_schema.specs.declared.definition.Definition.{Definition}
use Rattle.table_schema.specs.declared.index.LocalIndex.{LocalIndex}
use Rattle.table_schema.specs.declared.keys.KeyNames.{KeyNames}
use Rattle.table_schema.specs.declared.schema.Schema.{Schema}
use Rattle.table_schema.specs.declared.fault.SchemaFault.TheVariants.{DefinitionMismatch}
use Rattle.table_schema.specs.declared.stated.KeyElement.{KeyElement}
use Rattle.table_schema.specs.declared.stated.KeyRole.TheVariants.{Hash, Range}
use Rattle.table_schema.specs.Key.{Names, range_of, elements_of}
use Rattle.table_schema.specs.Kind.{kind_of}
use Rattle.table_schema.specs.KeyName.{is_key_name, is_sort_name}
use Rattle.table_schema.specs.Rule.{IsValid, DefinesItsKeys, Defines, IsKeyAttribute}
use Rattle.table_schema.proofs.Anys.{any_here, any_behind, any_from, none}
use Rattle.table_request.specs.declared.tables.TableUpdate.{TableUpdate}
use Rattle.table_model.specs.Catalog.{updated_schema}
use Rattle.cell_model.specs.Commands.{has_kinds}
use Rattle.cell_model.proofs.KeptTypes.{kind_known, is_left, left_of_local, kept_kind}
use Rattle.cell_model.proofs.Keeping.{valid_typed}
use Rattle.table_history.specs.SameTable.{lasts}

-- ---- attributes that have types

any_kind : (name : List ℕ) (ds : List Definition) → Any (λ d. d.name ≡ name) ds → is_some (kind_of name ds) ≡ true
any_kind name [] any = absurd (none (λ (d : Definition). d.name ≡ name) any)
any_kind name (d ∷ ds) any =
    elim (any_from (λ (x : Definition). x.name ≡ name) d ds any) [
      | inl same ↦ ap is_some (cond-true (bytes_eq d.name name) (Some d.kind) _ ((bytes_eq-Decides d.name name).1 same))
      | inr rest ↦ cond_both (bytes_eq d.name name) (Some d.kind) (kind_of name ds) (λ o. is_some o ≡ true) (λ _. refl) (λ _. any_kind name ds rest)
    ]

key_named : (keys : KeyNames) (name : List ℕ) → is_key_name keys name ≡ true → Names (elements_of keys) name
unfolding Names
key_named keys name h = go keys.sort (bytes_eq keys.partition name) refl h
  where
    go : (sort : Option (List ℕ)) (b : Bool) → bytes_eq keys.partition name ≡ b → (b || is_sort_name sort name) ≡ true
        → Any (λ e. e.name ≡ name) (elements_of (record { partition = keys.partition; sort = sort }))
    go sort true e h = any_here (λ (x : KeyElement). x.name ≡ name) (record { name = keys.partition; role = Hash }) (range_of sort) ((bytes_eq-Decides keys.partition name).0 e)
    go None false e h = absurd (cc)
    go (Some other) false e h =
        any_behind (λ (x : KeyElement). x.name ≡ name) (record { name = keys.partition; role = Hash }) (range_of (Some other))
        (any_here (λ (x : KeyElement). x.name ≡ name) (record { name = other; role = Range }) [] ((bytes_eq-Decides other name).0 h))

-- of a valid schema those of the table's own key
own_known : (schema : Schema) (name : List ℕ) → IsValid schema → is_key_name schema.keys name ≡ true → is_some (kind_of name schema.definitions) ≡ true
unfolding DefinesItsKeys Defines IsKeyAttribute
own_known schema name valid h = any_kind name schema.definitions ((valid DefinitionMismatch name).1 (inl (key_named schema.keys name h)))

-- those of local indexes whose keys have types
local_known : (schema : Schema) (name : List ℕ) (locals : List LocalIndex) → list_all (λ index. has_kinds schema index.keys) locals ≡ true
    → list_any (λ index. is_key_name index.keys name) locals ≡ true → is_some (kind_of name schema.definitions) ≡ true
local_known schema name [] all h = absurd (cc)
local_known schema name (i ∷ is) all h =
    let p = and_parts (has_kinds schema i.keys) (list_all (λ index. has_kinds schema index.keys) is) all in
    go (is_key_name i.keys name) refl h (local_known schema name is p.1) p.0
  where
    go : (b : Bool) → is_key_name i.keys name ≡ b → (b || list_any (λ index. is_key_name index.keys name) is) ≡ true
        → (list_any (λ index. is_key_name index.keys name) is ≡ true → is_some (kind_of name schema.definitions) ≡ true)
        → has_kinds schema i.keys ≡ true → is_some (kind_of name schema.definitions) ≡ true
    go true e h rest kinds = kind_known schema i.keys name kinds e
    go false e h rest kinds = rest h

-- of a valid schema all that last
known : (schema : Schema) (name : List ℕ) → IsValid schema → lasts schema name ≡ true → is_some (kind_of name schema.definitions) ≡ true
known schema name valid h = go (is_key_name schema.keys name) refl h
  where
    go : (b : Bool) → is_key_name schema.keys name ≡ b → (b || list_any (λ index. is_key_name index.keys name) schema.locals) ≡ true
        → is_some (kind_of name schema.definitions) ≡ true
    go true e h = own_known schema name valid e
    go false e h =
        let typed = valid_typed schema valid in
        local_known schema name schema.locals
        (and_parts (list_all (λ index. has_kinds schema index.keys) schema.locals) (list_all (λ index. has_kinds schema index.keys) schema.globals) typed).0 h

-- ---- an update

module _ (schema : Schema) (update : TableUpdate) where
  -- their definitions stay
  used : (name : List ℕ) → lasts schema name ≡ true → (is_key_name schema.keys name || is_left schema update name) ≡ true
  used name h = go (is_key_name schema.keys name) h
    where
      go : (b : Bool) → (b || list_any (λ index. is_key_name index.keys name) schema.locals) ≡ true → (b || is_left schema update name) ≡ true
      go true h = refl
      go false h = left_of_local schema update name h

  pub lasting_kind : IsValid schema → (name : List ℕ) → lasts schema name ≡ true
      → kind_of name (updated_schema schema update).definitions ≡ kind_of name schema.definitions
  lasting_kind valid name h = kept_kind schema update name (known schema name valid h) (used name h)
