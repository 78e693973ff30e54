-- Stamps are ordered by moment, then by number.
use Rattle.std.specs.Prelude.{◌≡◌, ℕ, Bool, false, ◌&&◌, ◌||◌, nat_lt, nat_eq, if◌then◌else◌}
use Rattle.txn_core.specs.declared.stamp.Stamp.{Stamp}

-- whether s comes before t
abbrev pub earlier : Stamp → Stamp → Bool
earlier s t = nat_lt s.moment t.moment || (nat_eq s.moment t.moment && nat_lt s.number t.number)

abbrev pub later : Stamp → Stamp → Stamp
later s t = if earlier s t then t else s

-- s comes before t, or is t
abbrev pub IsBy : Stamp → Stamp → Type 0
IsBy s t = earlier t s ≡ false

-- the stamp of a single write
abbrev pub single : ℕ → Stamp
single moment = record { moment = moment; number = 0 }
