use Rattle.std.proofs.Common.{◌≡◌, ◌++◌}
use Rattle.txn_ledger.specs.Records.{unfinished_in}
use Rattle.txn_ledger.proofs.ledger.TxnLedger.unfinished.Given as goal

abbrev pub invariant-loop-number : goal.invariant-loop-number
invariant-loop-number g l = l.numbers ++ unfinished_in l.number-iterator ≡ unfinished_in l.self.records.entries
