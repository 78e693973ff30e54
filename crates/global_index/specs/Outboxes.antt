-- What an outbox shows.
use Rattle.std.specs.Prelude.{ℕ, suc, Bool, false, nat_eq, List, [], ◌∷◌}
use Rattle.std.specs.Borrow.{Bor}
use Rattle.index_feed.specs.declared.change.Change.{Change}
use Rattle.index_feed.specs.Feed.{Out, showing}

module _ {K V : Type 0} where
  -- a change that is lent, under its number
  abbrev pub shown : ℕ × Bor (Change K V) → Out K V
  shown p = showing p.0 p.1.now

  -- some change waits, and the first has this number
  abbrev pub has_first : ℕ → List (Change K V) → ℕ → Bool
  has_first sent [] sequence = false
  has_first sent (x ∷ xs) sequence = nat_eq sequence (suc sent)
