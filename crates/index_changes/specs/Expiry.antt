-- Tables whose items never expire.
use Rattle.std.specs.Prelude.{◌≡◌, ℕ, false}
use Rattle.txn_core.specs.Protocol.{Protocol}

-- under this catalog no item of the table of this number is expired, at no moment
pub record NeverExpires {K V A F C D : Type 0} (P : Protocol K V A F C D) (cat : C) (table : ℕ) : Type 0 where
  pub never : (k : K) (v : V) (moment : ℕ) → P.table k ≡ table → P.expired cat k v moment ≡ false
