-- When an item is expired (API Reference: TimeToLiveSpecification; Developer Guide: Using time to live).
use Rattle.std.specs.Prelude.{◌≡◌, ℕ, ◌+◌, ◌-◌, ◌*◌, ◌^◌, ◌≤◌, ℤ, pos, negsuc, List, Bool, true, false, ◌&&◌, nat_lt, nat_le, Option, None, Some}
use Rattle.attr_value.specs.Tree.{Tree, number, Attributes}
use Rattle.attr_value.specs.Paths.{value_at}
use Rattle.row_keys.specs.declared.expiry.Expiry.{Expiry}
use Rattle.row_keys.specs.declared.expiry.Expiry.TheVariants.{Expired, Never, After}

-- so many seconds as numbers are kept, each as its value times 10^167
unfoldable pub of_seconds : ℕ → ℕ
of_seconds seconds = seconds * 10 ^ 167

-- five times 365 days, in seconds
abbrev pub longest : ℕ
longest = 157680000

-- the number is at least 0 and below the second, by at most five years
abbrev pub is_past : ℤ → ℕ → Bool
is_past (negsuc n) second = false
is_past (pos n) second = nat_lt n (of_seconds second) && nat_le (of_seconds second) (n + of_seconds longest)

abbrev pub is_past_if : Option Tree → ℕ → Bool
is_past_if (Some (number z)) second = is_past z second
is_past_if value second = false

-- [Expired]: items expire by the attribute of this name, where there is one, and the item's is past at the second
abbrev pub is_expired : Option (List ℕ) → Attributes → ℕ → Bool
is_expired None item second = false
is_expired (Some name) item second = is_past_if (value_at name item) second

-- ---- what is known of later seconds

-- the number is below the second
abbrev pub is_below : ℤ → ℕ → Bool
is_below (negsuc n) second = true
is_below (pos n) second = nat_lt n (of_seconds second)

-- the number is below the second by more than five years
abbrev pub is_long_past : ℤ → ℕ → Bool
is_long_past z second = nat_le longest second && is_below z (second - longest)

-- whether it is expired at the second at which it was looked at
abbrev pub is_now : Expiry → Bool
is_now Expired = true
is_now _ = false

-- from a second on what expires is never expired, or not up to a number of seconds
abbrev pub IsFreshFrom : (ℕ → Bool) → ℕ → Expiry → Type 0
IsFreshFrom expired second Expired = expired second ≡ true
IsFreshFrom expired second Never = (later : ℕ) → second ≤ later → expired later ≡ false
IsFreshFrom expired second (After z) = (later : ℕ) → second ≤ later → is_below z later ≡ false → expired later ≡ false
