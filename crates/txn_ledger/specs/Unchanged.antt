-- A ledger in which nothing changed.
use Rattle.std.specs.Prelude.{◌≡◌, ℕ}
use Rattle.std.specs.Ordering.{nat_cmp}
use Rattle.std.specs.BTreeMap.{get}
use Rattle.txn_ledger.specs.declared.ledger.TxnLedger.{TxnLedger}

pub record Unchanged {A Q : Type 0} (s t : TxnLedger A Q) : Type 0 where
  pub next : t.next ≡ s.next
  pub records : (number : ℕ) → get nat_cmp t.records number ≡ get nat_cmp s.records number
  pub tokens : t.tokens ≡ s.tokens
