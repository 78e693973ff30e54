-- The elements of key names, one by one.
use Rattle.std.proofs.Common.{◌≡◌, ℕ, List, [], Option, None, Some, inl, inr, ap, subst, Bool}
use Rattle.std.specs.Prelude.{◌⊎◌, ◌↔◌, IsTrue}
use Rattle.table_schema.specs.declared.keys.KeyNames.{KeyNames}
use Rattle.table_schema.specs.declared.stated.KeyElement.{KeyElement}
use Rattle.table_schema.specs.declared.stated.KeyRole.TheVariants.{Hash, Range}
use Rattle.table_schema.specs.declared.stated.StatedSchema.{StatedSchema}
use Rattle.table_schema.specs.Rule.{Defines, DefinesParts}
use Rattle.table_schema.proofs.Anys.{any_here, any_behind, any_from, none}
use Rattle.table_schema.specs.Key.{Names, elements_of, range_of}

-- the list that states key names has their names
pub names_both_ways : (keys : KeyNames) (name : List ℕ) → Names (elements_of keys) name ↔ ((keys.partition ≡ name) ⊎ (keys.sort ≡ Some name))
unfolding Names
names_both_ways keys name = (
  λ names. parts name keys.sort (any_from (λ e. e.name ≡ name) (hash keys) (range_of keys.sort) names),
  λ part.
      elim part [
        | inl is ↦ any_here (λ e. e.name ≡ name) (hash keys) (range_of keys.sort) is
        | inr is ↦ any_behind (λ e. e.name ≡ name) (hash keys) (range_of keys.sort) (sort_named name keys.sort is)
      ],
)
  where
    hash : KeyNames → KeyElement
    hash keys = record { name = keys.partition; role = Hash }

    sort_named : (name : List ℕ) (sort : Option (List ℕ)) → sort ≡ Some name → Names (range_of sort) name
    sort_named name None is = absurd (cc)
    sort_named name (Some sort) is = any_here (λ e. e.name ≡ name) (record { name = sort; role = Range }) [] (cc)

    parts : {P : Type 0} (name : List ℕ) (sort : Option (List ℕ)) → P ⊎ Names (range_of sort) name → P ⊎ (sort ≡ Some name)
    parts name sort (inl is) = inl is
    parts name None (inr names) = absurd (none (λ e. e.name ≡ name) names)
    parts name (Some sort) (inr names) =
        elim (any_from (λ e. e.name ≡ name) (record { name = sort; role = Range }) [] names)
        [ inl is ↦ inr (ap Some is) | inr nothing ↦ absurd (none (λ e. e.name ≡ name) nothing) ]

pub named_iff : (r : Bool) (keys : KeyNames) (name : List ℕ) → IsTrue r ↔ ((keys.partition ≡ name) ⊎ (keys.sort ≡ Some name)) → IsTrue r ↔ Names (elements_of keys) name
named_iff r keys name both =
    let list = names_both_ways keys name in (λ yes. list.1 (both.0 yes), λ names. both.1 (list.0 names))

-- the names of a key are defined where each part is
module _ (s : StatedSchema) (keys : KeyNames) where
  pub parts_defined : Defines s keys.partition → ((sort : List ℕ) → keys.sort ≡ Some sort → Defines s sort) → DefinesParts s (elements_of keys)
  unfolding DefinesParts
  parts_defined first second name names =
      elim ((names_both_ways keys name).0 names) [ inl is ↦ subst (Defines s) is first | inr is ↦ second name is ]

  pub part_defined : DefinesParts s (elements_of keys) → (name : List ℕ) → (keys.partition ≡ name) ⊎ (keys.sort ≡ Some name) → Defines s name
  unfolding DefinesParts
  part_defined parts name part = parts name ((names_both_ways keys name).1 part)
