-- When a token's life ends.
use Rattle.std.specs.Prelude.{ℕ, ◌+◌, ◌^◌, Bool, false, nat_le, Option, None, Some, unwrap_or}
use Rattle.client_tokens.specs.declared.kept.Kept.{Kept}

-- how long a token lives after its completed moment: 600 seconds, in microseconds
abbrev pub token_life : ℕ
token_life = 600000000

-- whether the life after this completed moment is over; never, where there is none
abbrev pub is_over : Option ℕ → ℕ → Bool
is_over None moment = false
is_over (Some completed) moment = nat_le (completed + token_life) moment

-- whether the life of a token that is kept so is over at the moment
abbrev pub has_expired : {A : Type 0} → Kept A → ℕ → Bool
has_expired kept moment = is_over kept.completed moment

-- the completed moment, or where there is none a number past every moment
abbrev pub due : {A : Type 0} → Kept A → ℕ
due kept = unwrap_or kept.completed (2 ^ 64)
