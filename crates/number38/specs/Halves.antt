-- A word in two halves.
use Rattle.std.specs.Prelude.{ℕ, ◌+◌, ◌*◌, ◌/◌, ◌%◌, ◌^◌, ◌<◌}
use Rattle.number38.specs.declared.halves.Halves.TheInside.{Inside}

-- the word that the halves are of
abbrev pub joined : Inside → ℕ
joined h = h.high * 2 ^ 64 + h.low

pub record AreWords (h : Inside) : Type 0 where
  pub high : h.high < 2 ^ 64
  pub low : h.low < 2 ^ 64

-- the halves of a word
abbrev pub halves_of : ℕ → Inside
halves_of n = record { high = n / 2 ^ 64; low = n % 2 ^ 64 }
