-- What the entries of a history change: each entry has one effect, and most have none.
use Rattle.std.specs.Prelude.{ℕ, List}
use Rattle.txn_core.specs.declared.stamp.Stamp.{Stamp}

-- K: which item; A: an action; D: a change of the catalog
pub data Effect (K A D : Type 0) : Type 0 where
  -- a single write, accepted at this moment
  Wrote : A → ℕ → Effect K A D
  -- a transaction is begun, with the next number
  Begun : Stamp → List A → Effect K A D
  -- a transaction's action is accepted, and its item held
  Prepared : ℕ → Stamp → A → Effect K A D
  -- a transaction is committed; it is cancelled
  Commits : ℕ → Effect K A D
  Cancels : ℕ → Effect K A D
  -- the new image of a held item is put in place; the item is let go
  Applied : ℕ → K → Effect K A D
  Released : ℕ → K → Effect K A D
  -- a transaction's Done; its record is forgotten
  Finished : ℕ → Effect K A D
  Forgot : ℕ → Effect K A D
  -- a catalog command that was not refused, at this moment
  Changed : D → ℕ → Effect K A D
  -- nothing changes
  Quiet : Effect K A D
