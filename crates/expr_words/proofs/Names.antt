-- What a function's name is, by the function that it calls.
use Rattle.std.proofs.Common.{◌≡◌, ℕ, Bool, true, false, List, if◌then◌else◌, codes, bytes_eq, refl}
use Rattle.std.specs.Cmp.Lexicographic.{bytes_decides}
use Rattle.expr_words.specs.declared.function.Function.{Function}
use Rattle.expr_words.specs.declared.function.Function.TheVariants.{Size, Exists, NotExists, HasType, BeginsWith, Contains, IfNotExists, ListAppend, Unknown}
use Rattle.expr_words.specs.Functions.{function_of}

-- the name that a function is written by
abbrev pub IsCalled : Function → List ℕ → Type 0
IsCalled Size name = name ≡ codes "size"
IsCalled Exists name = name ≡ codes "attribute_exists"
IsCalled NotExists name = name ≡ codes "attribute_not_exists"
IsCalled HasType name = name ≡ codes "attribute_type"
IsCalled BeginsWith name = name ≡ codes "begins_with"
IsCalled Contains name = name ≡ codes "contains"
IsCalled IfNotExists name = name ≡ codes "if_not_exists"
IsCalled ListAppend name = name ≡ codes "list_append"
IsCalled Unknown name = Unit {0}

pick : (name written : List ℕ) (f g : Function) → (name ≡ written → IsCalled f name) → IsCalled g name → IsCalled (if bytes_eq name written then f else g) name
pick name written f g met unmet = go (bytes_eq name written) refl where
  go : (b : Bool) → bytes_eq name written ≡ b → IsCalled (if b then f else g) name
  go true e = met ((bytes_decides name written).0 e)
  go false e = unmet

pub is_called : (name : List ℕ) → IsCalled (function_of name) name
is_called name =
    pick name (codes "size") Size _ (λ e. e)
    (pick name (codes "attribute_exists") Exists _ (λ e. e)
    (pick name (codes "attribute_not_exists") NotExists _ (λ e. e)
    (pick name (codes "attribute_type") HasType _ (λ e. e)
    (pick name (codes "begins_with") BeginsWith _ (λ e. e)
    (pick name (codes "contains") Contains _ (λ e. e)
    (pick name (codes "if_not_exists") IfNotExists _ (λ e. e)
    (pick name (codes "list_append") ListAppend Unknown (λ e. e) tt)))))))
