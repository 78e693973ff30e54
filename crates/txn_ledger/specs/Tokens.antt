-- What becomes of what a token is kept with.
use Rattle.std.specs.Prelude.{◌≡◌, ℕ, not, ◌&&◌, nat_eq, List, Option, None, Some, is_some, if◌then◌else◌}
use Rattle.std.specs.Str.{bytes_eq}
use Rattle.std.specs.FinMap.{get}
use Rattle.client_tokens.specs.declared.kept.Kept.{Kept}
use Rattle.client_tokens.specs.Kept.{has_expired}
use Rattle.client_tokens.specs.TokenMap.{TokenMap}
use Rattle.txn_ledger.specs.declared.tokens.ClientToken.{ClientToken}

module _ {A : Type 0} where
  -- none, where the token's life is over at the moment
  abbrev pub living : ℕ → Option (Kept A) → Option (Kept A)
  living moment None = None
  living moment (Some kept) = if has_expired kept moment then None else Some kept

  -- the first Done of the number completes it
  abbrev pub completed : ℕ → ℕ → Option (Kept A) → Option (Kept A)
  completed number moment None = None
  completed number moment (Some kept) =
      if nat_eq kept.number number && not (is_some kept.completed) then Some (record kept { completed = Some moment }) else Some kept

  -- a cancel of the number frees it
  abbrev pub freed : ℕ → Option (Kept A) → Option (Kept A)
  freed number None = None
  freed number (Some kept) = if nat_eq kept.number number then None else Some kept

  -- what a token is kept with for a number, if anything, is kept with this token
  abbrev pub IsTokenOf : TokenMap A → Option (List ℕ) → ℕ → Type 0
  IsTokenOf tokens token number = (other : List ℕ) (kept : Kept A) → get tokens other ≡ Some kept → kept.number ≡ number → token ≡ Some other

module _ {A : Type 0} where
  -- a token that comes with the transaction of a number is kept with both, and each other one as it was
  abbrev pub kept_with : Option (ClientToken A) → ℕ → List ℕ → Option (Kept (List A)) → Option (Kept (List A))
  kept_with None number other kept = kept
  kept_with (Some t) number other kept =
      if bytes_eq other t.token then Some (record { number = number; actions = t.actions; completed = None }) else kept
