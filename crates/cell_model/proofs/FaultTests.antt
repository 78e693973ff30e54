-- Each test of `FirstFault` says whether the fault is there.
use Rattle.std.proofs.Common.{◌≡◌, ℕ, ◌≤◌, Bool, not, ◌&&◌, List, [], ◌∷◌, map, length, nat_le, bytes_eq, refl, arith, subst}
use Rattle.std.specs.Prelude.{All}
use Rattle.std.specs.Bool.{Decides}
use Rattle.std.specs.Char.{IsAsciiAlphanumeric, is_ascii_alphanumeric}
use Rattle.std.specs.Int.{IsInRange, is_in_range}
use Rattle.std.specs.List.{list_all}
use Rattle.std.proofs.lemmas.Bool.Decides.{Decides-and, Decides-or, Decides-eqb, Decides-not, Decides-like, Decides-by_and, nat_tests}
use Rattle.std.proofs.lemmas.Slice.Eq.{bytes_eq-Decides}
use Rattle.table_schema.specs.declared.index.Projection.{Projection}
use Rattle.table_schema.specs.declared.index.Projection.TheVariants.{KeysOnly, Include, All as Whole}
use Rattle.table_schema.specs.declared.stated.KeyElement.{KeyElement}
use Rattle.table_schema.specs.declared.stated.KeyRole.{KeyRole}
use Rattle.table_schema.specs.declared.stated.KeyRole.TheVariants.{Hash, Range}
use Rattle.table_schema.specs.declared.stated.StatedSchema.{StatedSchema}
use Rattle.table_schema.specs.declared.fault.SchemaFault.{SchemaFault}
use Rattle.table_schema.specs.declared.fault.SchemaFault.TheVariants.{BadName, BadKeySchema, BadDefinition, DefinitionMismatch, BadIndexName, BadIndexKey, BadProjection, TooManyIndexes}
use Rattle.table_schema.specs.Name.{IsNameByte, IsTableName, IsAttributeName}
use Rattle.table_schema.specs.Key.{Names, IsKeySchema, IsLocalTo}
use Rattle.table_schema.specs.Index.{indexes_of, IsProjection}
use Rattle.table_schema.specs.NameSet.{has}
use Rattle.table_schema.specs.Stated.{in_keys}
use Rattle.table_schema.specs.Rule.{Defines, IsKeyAttribute, DefinesParts, DefinesEveryKey, IsFreeOf}
use Rattle.table_schema.proofs.Anys.{any_tested, either_tested}
use Rattle.table_schema.proofs.Names.{at_any, from_any}
use Rattle.table_schema.proofs.NewNames.{has_name, found_new}
use Rattle.table_schema.proofs.Rules.{both_ways, used_from, every_from, all_keys, table_keys, index_keys}
use Rattle.cell_model.specs.FirstFault.{is_name_byte, is_table_name, is_attribute_name, is_hash, is_key_schema, is_local_to, defines, is_in_key, defines_key, defines_keys, is_projection, is_free_of}

at_most : (n most : ℕ) → Decides (nat_le n most) (n ≤ most)
at_most n most = (λ e. grind (arith, nat_tests), λ h. grind (arith, nat_tests))

within : (least most n : ℕ) → Decides (nat_le least n && nat_le n most) ((least ≤ n) × (n ≤ most))
within least most n = Decides-and (nat_le least n) (nat_le n most) (at_most least n) (at_most n most)

each : {X : Type 0} (p : X → Bool) (P : X → Type 0) → ((x : X) → Decides (p x) (P x)) → (xs : List X) → Decides (list_all p xs) (All P xs)
each p P one = Decides-by_and p P (list_all p) one refl (λ x xs. refl)

range : (low high byte : ℕ) → Decides (is_in_range low high byte) (IsInRange low high byte)
range low high byte = within low high byte

name_byte : (byte : ℕ) → Decides (is_name_byte byte) (IsNameByte byte)
name_byte byte =
    Decides-or _ _ alphanumeric
    (Decides-or _ _ (Decides-eqb byte 95) (Decides-or _ _ (Decides-eqb byte 46) (Decides-eqb byte 45)))
  where
    alphanumeric : Decides (is_ascii_alphanumeric byte) (IsAsciiAlphanumeric byte)
    alphanumeric = Decides-or _ _ (Decides-or _ _ (range 48 57 byte) (range 65 90 byte)) (range 97 122 byte)

table_name : (name : List ℕ) → Decides (is_table_name name) (IsTableName name)
table_name name =
    Decides-like (is_table_name name) (λ h. (h.0.0, h.0.1, h.1)) (λ h. ((h.0, h.1), h.2))
    (Decides-and _ _ (within 3 255 (length name)) (each is_name_byte IsNameByte name_byte name))

hash_role : (role : KeyRole) → Decides (is_hash role) (role ≡ Hash)
hash_role Hash = (λ e. refl, λ e. refl)
hash_role Range = (λ e. absurd (cc), λ e. absurd (cc))

range_role : (role : KeyRole) → Decides (not (is_hash role)) (role ≡ Range)
range_role Hash = (λ e. absurd (cc), λ e. absurd (cc))
range_role Range = (λ e. refl, λ e. refl)

key_schema : (keys : List KeyElement) → Decides (is_key_schema keys) (IsKeySchema keys)
key_schema [] = (λ e. absurd (cc), λ h. absurd h)
key_schema (hash ∷ []) = hash_role hash.role
key_schema (hash ∷ range ∷ []) =
    Decides-like (is_key_schema (hash ∷ range ∷ [])) (λ h. (h.0, h.1.0, h.1.1)) (λ h. (h.0, (h.1, h.2)))
    (Decides-and _ _ (hash_role hash.role)
    (Decides-and _ _ (range_role range.role)
    (Decides-not (bytes_eq hash.name range.name) (bytes_eq-Decides hash.name range.name))))
key_schema (hash ∷ range ∷ other ∷ others) = (λ e. absurd (cc), λ h. absurd h)

local_to : (table index : List KeyElement) → Decides (is_local_to table index) (IsLocalTo table index)
local_to (hash ∷ range ∷ others) (index_hash ∷ index_range ∷ index_others) = bytes_eq-Decides index_hash.name hash.name
local_to [] index = (λ e. absurd (cc), λ h. absurd h)
local_to (hash ∷ []) index = (λ e. absurd (cc), λ h. absurd h)
local_to (hash ∷ range ∷ others) [] = (λ e. absurd (cc), λ h. absurd h)
local_to (hash ∷ range ∷ others) (index_hash ∷ []) = (λ e. absurd (cc), λ h. absurd h)

projection : (projection : Projection) → Decides (is_projection projection) (IsProjection projection)
projection KeysOnly = (λ e. tt, λ h. refl)
projection (Include names) = within 1 20 (length names)
projection Whole = (λ e. tt, λ h. refl)

module _ (s : StatedSchema) where
  defined : (name : List ℕ) → Decides (defines s name) (Defines s name)
  unfolding defines Defines
  defined name = has_name (λ d. d.name) name s.definitions

  named : (keys : List KeyElement) (name : List ℕ) → Decides (has (map (λ e. e.name) keys) name) (Names keys name)
  unfolding Names
  named keys name = has_name (λ e. e.name) name keys

  in_key : (name : List ℕ) → Decides (is_in_key s name) (IsKeyAttribute s name)
  unfolding is_in_key IsKeyAttribute
  in_key name =
      either_tested (has (map (λ e. e.name) s.keys) name) (in_keys name (indexes_of s)) (named s.keys name)
      (any_tested (λ i. has (map (λ e. e.name) i.keys) name) (λ i. Names i.keys name) (λ i. named i.keys name) (indexes_of s))

  key_defined : (keys : List KeyElement) → Decides (defines_key s keys) (DefinesParts s keys)
  unfolding defines_key DefinesParts Names
  key_defined keys =
      Decides-like (list_all (λ e. defines s e.name) keys)
      (λ all. at_any (λ e n. e.name ≡ n) (Defines s) keys (λ k d there n is. subst (Defines s) is (all k d there)))
      (λ parts k d there. from_any (λ e n. e.name ≡ n) (Defines s) keys parts k d there _ refl)
      (each (λ e. defines s e.name) (λ e. Defines s e.name) (λ e. defined e.name) keys)

  keys_defined : Decides (defines_keys s) (DefinesEveryKey s)
  unfolding defines_keys
  keys_defined =
      Decides-like (defines_keys s) (λ h. all_keys s h.0 h.1) (λ h. (table_keys s h, index_keys s h))
      (Decides-and _ _ (key_defined s.keys)
      (each (λ i. defines_key s i.keys) (λ i. DefinesParts s i.keys) (λ i. key_defined i.keys) (indexes_of s)))

  -- the test of a fault says whether the schema is free of it
  pub tells : (fault : SchemaFault) → Decides (is_free_of fault s) (IsFreeOf fault s)
  unfolding is_free_of
  tells BadName = table_name s.name
  tells BadKeySchema = key_schema s.keys
  tells BadDefinition =
      Decides-like (is_free_of BadDefinition s) (λ h. record { named = h.0; distinct = h.1 }) (λ h. (h.named, h.distinct))
      (Decides-and _ _ (each (λ d. is_attribute_name d.name) (λ d. IsAttributeName d.name) (λ d. within 1 255 (length d.name)) s.definitions)
      (found_new (λ d. d.name) s.definitions _ refl))
  tells DefinitionMismatch =
      Decides-like (is_free_of DefinitionMismatch s) (λ h. both_ways s h.0 h.1) (λ h. (used_from s h, every_from s h))
      (Decides-and _ _ (each (λ d. is_in_key s d.name) (λ d. IsKeyAttribute s d.name) (λ d. in_key d.name) s.definitions) keys_defined)
  tells BadIndexName =
      Decides-like (is_free_of BadIndexName s) (λ h. record { named = h.0; distinct = h.1 }) (λ h. (h.named, h.distinct))
      (Decides-and _ _ (each (λ i. is_table_name i.name) (λ i. IsTableName i.name) (λ i. table_name i.name) (indexes_of s))
      (found_new (λ i. i.name) (indexes_of s) _ refl))
  tells BadIndexKey =
      Decides-like (is_free_of BadIndexKey s) (λ h. record { keys = h.0; local = h.1 }) (λ h. (h.keys, h.local))
      (Decides-and _ _ (each (λ i. is_key_schema i.keys) (λ i. IsKeySchema i.keys) (λ i. key_schema i.keys) (indexes_of s))
      (each (λ i. is_local_to s.keys i.keys) (λ i. IsLocalTo s.keys i.keys) (λ i. local_to s.keys i.keys) s.locals))
  tells BadProjection =
      each (λ i. is_projection i.projection) (λ i. IsProjection i.projection) (λ i. projection i.projection) (indexes_of s)
  tells TooManyIndexes =
      Decides-like (is_free_of TooManyIndexes s) (λ h. record { local = h.0; global = h.1 }) (λ h. (h.local, h.global))
      (Decides-and _ _ (at_most (length s.locals) 5) (at_most (length s.globals) 20))
