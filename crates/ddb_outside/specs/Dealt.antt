-- How a listener in memory deals its connections out to its shares.
use Rattle.std.specs.Prelude.{ℕ, ◌+◌, ◌%◌, ◌==◌, List, [], ◌∷◌, map, if◌then◌else◌}
use Rattle.std.specs.List.{range_with_len}

-- of contents whose first has place `at`, those whose place leaves `k` when it is divided by `shares`
abbrev pub leaving : ℕ → ℕ → ℕ → List (List ℕ) → List (List ℕ)
leaving shares k at [] = []
leaving shares k at (content ∷ contents) =
    if at % shares == k then content ∷ leaving shares k (at + 1) contents else leaving shares k (at + 1) contents

-- what each share will accept, from share 0 on
abbrev pub dealt : List (List ℕ) → ℕ → List (List (List ℕ))
dealt contents shares = map (λ k. leaving shares k 0 contents) (range_with_len 0 shares)
