-- The kept tokens as a list, in the order in which they were kept, for a layer that states what it keeps as lists.
use Rattle.std.specs.Prelude.{◌≡◌, ℕ, List, [], ◌∷◌, ◌++◌, map, filter, not, Option, None, Some, if◌then◌else◌}
use Rattle.std.specs.Str.{bytes_eq}
use Rattle.std.specs.Ordering.{nat_cmp}
use Rattle.std.specs.Cmp.Lexicographic.{slice_cmp}
use Rattle.std.specs.FinMap.{find, from_entries}
use Rattle.client_tokens.specs.declared.kept.Kept.{Kept}
use Rattle.client_tokens.specs.Kept.{has_expired}
use Rattle.client_tokens.specs.TokenMap.{TokenMap}

-- tokens by their bytes, each with what it is kept with
abbrev pub TokenList : Type 0 → Type 0
TokenList A = List (List ℕ × Kept A)

module _ {A : Type 0} where
  -- what a token is kept with
  abbrev pub find_listed : TokenList A → List ℕ → Option (Kept A)
  find_listed list token = find (slice_cmp nat_cmp) token list

  -- the token comes last
  abbrev pub keep_listed : TokenList A → List ℕ → Kept A → TokenList A
  keep_listed list token kept = list ++ (token, kept) ∷ []

  -- the token has this completed moment
  abbrev pub complete_listed : TokenList A → List ℕ → ℕ → TokenList A
  complete_listed list token moment = map (λ e. (e.0, if bytes_eq token e.0 then record e.1 { completed = Some moment } else e.1)) list

  -- the token is gone
  abbrev pub free_listed : TokenList A → List ℕ → TokenList A
  free_listed list token = filter (λ e. not (bytes_eq token e.0)) list

  -- the tokens whose life is over at the moment are gone
  abbrev pub purge_listed : TokenList A → ℕ → TokenList A
  purge_listed list moment = filter (λ e. not (has_expired e.1 moment)) list

  -- no token stands twice
  abbrev pub IsEachOnce : TokenList A → Type 0
  IsEachOnce [] = Unit {0}
  IsEachOnce (e ∷ es) = (find_listed es e.0 ≡ None) × IsEachOnce es

  -- the list has each kept token once, and no other
  pub record Lists (list : TokenList A) (tokens : TokenMap A) : Type 0 where
    pub once : IsEachOnce list
    pub same : from_entries list ≡ tokens
