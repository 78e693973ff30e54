-- What a call changes among records.
use Rattle.std.specs.Prelude.{◌≡◌, ℕ, Option, if◌then◌else◌}
use Rattle.std.specs.Ordering.{nat_cmp}
use Rattle.std.specs.BTreeMap.{BTreeMap, get, is_at}
use Rattle.txn_ledger.specs.declared.record.Record.{Record}

module _ {A Q : Type 0} where
  -- the number has this record afterwards, and each other number its own
  abbrev pub Alters : BTreeMap ℕ (Record A Q) → BTreeMap ℕ (Record A Q) → ℕ → Option (Record A Q) → Type 0
  Alters s t number new = (other : ℕ) → get nat_cmp t other ≡ (if is_at (nat_cmp number) other then new else get nat_cmp s other)
