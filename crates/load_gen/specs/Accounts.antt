-- The accounts of the bank, numbered from 0, and which of them a transfer is between.
use Rattle.std.specs.Prelude.{ℕ, ◌+◌, ◌*◌, ◌/◌, ◌%◌, List, ◌++◌, codes, decimal}

-- the id of an account with a number below 100: `a` and two digits
unfoldable pub account_id : ℕ → List ℕ
account_id i = codes "a" ++ decimal (i / 10) ++ decimal (i % 10)

-- the account that a transfer takes from, by the number that the load starts with and the transfer's place
abbrev pub from_account : ℕ → ℕ → ℕ
from_account start j = (start + 7 * j) % 64

-- the account that it gives to
abbrev pub to_account : ℕ → ℕ → ℕ
to_account start j = (from_account start j + 1 + 2 * (j % 8)) % 64

-- how much the transfer at a place takes and gives
abbrev pub amount : ℕ → ℕ
amount j = 1 + j % 9
