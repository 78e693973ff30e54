use Rattle.std.proofs.Common.{rules}
use Rattle.txn_ledger.proofs.Kept.{frees}
use Rattle.txn_ledger.proofs.tokens.free.Goals as goal

pub returns-then-kept-number : goal.returns-then-kept-number
returns-then-kept-number g c other = search (frees, rules)
