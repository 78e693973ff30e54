-- Tests of lists of indexes.
use Rattle.std.proofs.Common.{◌≡◌, refl, sym, ap, ◌∙◌, ℕ, Bool, true, false, ◌||◌, cond, List, [], ◌∷◌, map, Option, Some, is_some}
use Rattle.std.specs.Prelude.{bytes_eq}
use Rattle.std.specs.List.{list_any}
use Rattle.std.proofs.lemmas.List.Folds.{list_any-append}
use Rattle.table_schema.specs.declared.index.GlobalIndex.{GlobalIndex}
use Rattle.table_schema.specs.declared.index.LocalIndex.{LocalIndex}
use Rattle.table_schema.specs.declared.schema.Schema.{Schema}
use Rattle.table_schema.specs.KeyName.{is_key_name}
use Rattle.row_keys.specs.Rows.{index_keys}
use Rattle.table_model.specs.Pages.{global_named, local_named}

step : {T : Type 0} (b r : Bool) (x : T) (o : Option T) → r ≡ is_some o → (b || r) ≡ is_some (cond b (Some x) o)
step true r x o h = refl
step false r x o h = h

-- some index has the name
pub any_global : (n : List ℕ) (xs : List GlobalIndex) → list_any (λ index. bytes_eq index.name n) xs ≡ is_some (global_named n xs)
any_global n [] = refl
any_global n (x ∷ xs) = step (bytes_eq x.name n) (list_any (λ index. bytes_eq index.name n) xs) x (global_named n xs) (any_global n xs)

pub any_local : (n : List ℕ) (xs : List LocalIndex) → list_any (λ index. bytes_eq index.name n) xs ≡ is_some (local_named n xs)
any_local n [] = refl
any_local n (x ∷ xs) = step (bytes_eq x.name n) (list_any (λ index. bytes_eq index.name n) xs) x (local_named n xs) (any_local n xs)

-- a test of what elements are mapped to
pub any_map : {X Y : Type 0} (p : Y → Bool) (f : X → Y) (xs : List X) → list_any p (map f xs) ≡ list_any (λ x. p (f x)) xs
any_map p f [] = refl
any_map p f (x ∷ xs) = ap (λ (b : Bool). p (f x) || b) (any_map p f xs)

-- some key of an index has the name
pub any_key : (n : List ℕ) (schema : Schema)
    → (list_any (λ index. is_key_name index.keys n) schema.locals || list_any (λ index. is_key_name index.keys n) schema.globals)
    ≡ list_any (λ keys. is_key_name keys n) (index_keys schema)
any_key n schema =
    sym
    (list_any-append (λ keys. is_key_name keys n) (map (λ index. index.keys) schema.locals) (map (λ index. index.keys) schema.globals)
    ∙ (λ i. any_map (λ keys. is_key_name keys n) (λ index. index.keys) schema.locals i || any_map (λ keys. is_key_name keys n) (λ index. index.keys) schema.globals i))
