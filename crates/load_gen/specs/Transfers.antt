-- What holds of every transfer, whatever the load starts with.
use Rattle.std.specs.Prelude.{ℕ, ◌<◌, ◌≤◌, ◌≢◌}
use Rattle.load_gen.specs.Accounts.{from_account, to_account, amount}

-- it is between two of the 64 accounts, never one alone, and of 1 to 9
pub record IsTransfer (start j : ℕ) : Type 0 where
  pub from : from_account start j < 64
  pub to : to_account start j < 64
  pub apart : from_account start j ≢ to_account start j
  pub least : 1 ≤ amount j
  pub most : amount j ≤ 9
