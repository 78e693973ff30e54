use Rattle.std.proofs.Common.{◌≡◌, inl, inr, refl, subst}
use Rattle.std.specs.Prelude.{All}
use Rattle.table_schema.specs.declared.stated.StatedSchema.{StatedSchema}
use Rattle.table_schema.specs.Key.{Names}
use Rattle.table_schema.specs.Index.{indexes_of}
use Rattle.table_schema.specs.Rule.{Defines, IsKeyAttribute, DefinesParts, DefinesEveryKey, DefinesItsKeys}
use Rattle.table_schema.proofs.Names.{at_any, from_any}

-- the keys of a table are its own and those of its indexes
module _ (s : StatedSchema) where
  pub all_keys : DefinesParts s s.keys → All (λ i. DefinesParts s i.keys) (indexes_of s) → DefinesEveryKey s
  unfolding IsKeyAttribute DefinesParts DefinesEveryKey
  all_keys table index name (inl names) = table name names
  all_keys table index name (inr any) = at_any (λ i n. Names i.keys n) (Defines s) (indexes_of s) index name any

  pub table_keys : DefinesEveryKey s → DefinesParts s s.keys
  unfolding IsKeyAttribute DefinesParts DefinesEveryKey
  table_keys every name names = every name (inl names)

  pub index_keys : DefinesEveryKey s → All (λ i. DefinesParts s i.keys) (indexes_of s)
  unfolding IsKeyAttribute DefinesParts DefinesEveryKey
  index_keys every = from_any (λ i n. Names i.keys n) (Defines s) (indexes_of s) (λ n any. every n (inr any))

-- what is defined is what the keys name, each way by itself
module _ (s : StatedSchema) where
  pub both_ways : All (λ d. IsKeyAttribute s d.name) s.definitions → DefinesEveryKey s → DefinesItsKeys s
  unfolding Defines DefinesEveryKey DefinesItsKeys
  both_ways used every name =
      (at_any (λ d n. d.name ≡ n) (IsKeyAttribute s) s.definitions (λ k d within n is. subst (IsKeyAttribute s) is (used k d within)) name, every name)

  pub used_from : DefinesItsKeys s → All (λ d. IsKeyAttribute s d.name) s.definitions
  unfolding Defines DefinesItsKeys
  used_from both k d within =
      from_any (λ d n. d.name ≡ n) (IsKeyAttribute s) s.definitions (λ n any. (both n).0 any) k d within _ refl

  pub every_from : DefinesItsKeys s → DefinesEveryKey s
  unfolding DefinesEveryKey DefinesItsKeys
  every_from both name keys = (both name).1 keys
