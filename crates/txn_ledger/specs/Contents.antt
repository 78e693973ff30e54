-- What a ledger has, as layers above it see it.
use Rattle.std.specs.Prelude.{ℕ, List, Option}
use Rattle.std.specs.Ordering.{nat_cmp}
use Rattle.std.specs.BTreeMap.{get}
use Rattle.std.specs.FinMap as map
use Rattle.client_tokens.specs.declared.kept.Kept.{Kept}
use Rattle.txn_ledger.specs.declared.record.Record.{Record}
use Rattle.txn_ledger.specs.declared.ledger.TxnLedger.{TxnLedger}

module _ {A Q : Type 0} where
  -- the number that the next transaction has
  abbrev pub next_of : TxnLedger A Q → ℕ
  next_of ledger = ledger.next

  -- the record of a number
  abbrev pub record_at : TxnLedger A Q → ℕ → Option (Record A Q)
  record_at ledger number = get nat_cmp ledger.records number

  -- what a token is kept with
  abbrev pub kept_at : TxnLedger A Q → List ℕ → Option (Kept (List A))
  kept_at ledger token = map.get ledger.tokens token
