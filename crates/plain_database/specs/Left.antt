-- What is left of a request that memory was refused to.
use Rattle.std.specs.Prelude.{◌≡◌, ◌⊎◌, ℕ}
use Rattle.table_model.specs.Database.{Database}
use Rattle.table_model.specs.Transactions.{without_expired}

-- nothing changes, but that tokens whose life is over may be forgotten
abbrev pub IsLeftOut : Database → ℕ → Database → Type 0
IsLeftOut db moment new = (new ≡ db) ⊎ (new ≡ without_expired db moment)
