-- The kept tokens as a finite map.
use Rattle.std.specs.Prelude.{ℕ, false, not, List, map, Option, Some, String, refl}
use Rattle.std.specs.Coded.{Coded, code_by, coded×, coded_ℕ, coded_option}
use Rattle.std.specs.Ordering.{nat_cmp}
use Rattle.std.specs.Cmp.Lexicographic.{slice_cmp}
use Rattle.std.specs.Option.{option_map_or}
use Rattle.std.specs.FinMap.{FinMap, get, insert, retain_keys, from_entries}
use Rattle.std.specs.String.{string_bytes}
use Rattle.client_tokens.specs.declared.kept.Kept.{Kept}
use Rattle.client_tokens.specs.Kept.{has_expired}

-- from the bytes of each kept token to what it is kept with
abbrev pub TokenMap : Type 0 → Type 0
TokenMap A = FinMap (slice_cmp nat_cmp) (Kept A)

module _ {A : Type 0} where
  -- the same, with this completed moment at the token
  abbrev pub completed_at : TokenMap A → List ℕ → ℕ → TokenMap A
  completed_at tokens token moment = option_map_or (λ kept. insert tokens token (record kept { completed = Some moment })) (get tokens token) tokens

  -- the same without the tokens whose life is over at the moment
  abbrev pub purged : TokenMap A → ℕ → TokenMap A
  purged tokens moment = retain_keys tokens (λ token. not (option_map_or (λ kept. has_expired kept moment) (get tokens token) false))

  -- the map that these entries make up, in whatever order they stand
  abbrev pub token_map : {Y : Type 0} → List (String Y × Kept A) → TokenMap A
  token_map entries = from_entries (map (λ e. (string_bytes e.0, e.1)) entries)

-- what a token is kept with is stored as its fields
abbrev pub kept_code : {A : Type 0} → Coded A → Coded (Kept A)
kept_code {A} code =
    code_by (ℕ × (A × Option ℕ)) (coded× coded_ℕ (coded× code (coded_option coded_ℕ)))
    (λ kept. (kept.number, (kept.actions, kept.completed)))
    (λ p. record { number = p.0; actions = p.1.0; completed = p.1.1 }) (λ _. refl)
