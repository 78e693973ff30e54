-- The names in the keys of a stated schema, found in sets.
use Rattle.std.proofs.Common.{◌≡◌, ℕ, Bool, true, false, ◌||◌, List, map, ap, sym, subst, ◌∙◌, inl, inr}
use Rattle.std.specs.Prelude.{Any, IsTrue, ◌↔◌}
use Rattle.table_schema.specs.declared.stated.StatedIndex.{StatedIndex}
use Rattle.table_schema.specs.declared.stated.StatedSchema.{StatedSchema}
use Rattle.table_schema.specs.NameSet.{has, IsWithin}
use Rattle.table_schema.specs.Key.{Names}
use Rattle.table_schema.specs.Rule.{Defines, IsKeyAttribute, DefinesItsKeys}
use Rattle.table_schema.specs.Stated.{in_keys}
use Rattle.table_schema.proofs.Anys.{any_tested, any_left, any_right, any_either, either_tested}
use Rattle.table_schema.proofs.NewNames.{has_name}

module _ (n : List ℕ) where
  in_key : (index : StatedIndex) → IsTrue (has (map (λ e. e.name) index.keys) n) ↔ Names index.keys n
  unfolding Names
  in_key index = has_name (λ e. e.name) n index.keys

  pub in_index : (indexes : List StatedIndex) → IsTrue (in_keys n indexes) ↔ Any (λ i. Names i.keys n) indexes
  in_index indexes = any_tested (λ i. has (map (λ e. e.name) i.keys) n) (λ i. Names i.keys n) in_key indexes

  in_table : (s : StatedSchema) → IsTrue (has (map (λ e. e.name) s.keys) n) ↔ Names s.keys n
  unfolding Names
  in_table s = has_name (λ e. e.name) n s.keys

  table_only : (b : Bool) → (b || false) ≡ b
  table_only true = λ i. true
  table_only false = λ i. false

  -- a name that was put in by one of three lists
  pub attribute : (s : StatedSchema) (table locals all : Bool) → table ≡ (has (map (λ e. e.name) s.keys) n || false) → locals ≡ (in_keys n s.locals || table) → all ≡ (in_keys n s.globals || locals) → IsTrue all ↔ IsKeyAttribute s n
  unfolding IsKeyAttribute
  attribute s table locals all is_table is_locals is_all =
      let keys : IsTrue table ↔ Names s.keys n =
      subst (λ b. IsTrue b ↔ Names s.keys n) (sym (is_table ∙ table_only (has (map (λ e. e.name) s.keys) n))) (in_table s) in
      let inner = either_tested (in_keys n s.locals) table (in_index s.locals) keys in
      let outer = either_tested (in_keys n s.globals) (in_keys n s.locals || table) (in_index s.globals) inner in
      let is : all ≡ (in_keys n s.globals || (in_keys n s.locals || table)) = is_all ∙ ap (λ b. in_keys n s.globals || b) is_locals in (
        λ passes.
            elim (outer.0 (sym is ∙ passes)) [
              | inl global ↦ inr (any_right (λ i. Names i.keys n) s.locals s.globals global)
              | inr others ↦ elim others [
                | inl local ↦ inr (any_left (λ i. Names i.keys n) s.locals s.globals local)
                | inr names ↦ inl names
              ]
            ],
        λ names.
            is
            ∙ outer.1
            (elim names [
              | inl table ↦ inr (inr table)
              | inr index ↦ elim (any_either (λ i. Names i.keys n) s.locals s.globals index) [
                | inl local ↦ inr (inl local)
                | inr global ↦ inl global
              ]
            ]),
      )

-- the sets of the names that are defined, and of those that are in keys
module _ (s : StatedSchema) (defined used : List (List ℕ)) (is_defined : (n : List ℕ) → has defined n ≡ (has (map (λ d. d.name) s.definitions) n || false)) (is_used : (n : List ℕ) → IsTrue (has used n) ↔ IsKeyAttribute s n) where
  defines : (n : List ℕ) → IsTrue (has defined n) ↔ Defines s n
  unfolding Defines
  defines n =
      subst (λ b. IsTrue b ↔ Any (λ d. d.name ≡ n) s.definitions)
      (sym (is_defined n ∙ table_only n (has (map (λ d. d.name) s.definitions) n))) (has_name (λ d. d.name) n s.definitions)

  pub same_sets : IsWithin defined used → IsWithin used defined → DefinesItsKeys s
  unfolding DefinesItsKeys
  same_sets there back n = (
    λ d. (is_used n).0 (there n ((defines n).1 d)),
    λ k. (defines n).0 (back n ((is_used n).1 k)),
  )

  pub within_used : DefinesItsKeys s → IsWithin defined used
  unfolding DefinesItsKeys
  within_used both n d = (is_used n).1 ((both n).0 ((defines n).0 d))

  pub within_defined : DefinesItsKeys s → IsWithin used defined
  unfolding DefinesItsKeys
  within_defined both n k = (defines n).1 ((both n).1 ((is_used n).0 k))
