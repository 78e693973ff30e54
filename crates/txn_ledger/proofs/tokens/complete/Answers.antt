use Rattle.std.proofs.Common.{rules}
use Rattle.txn_ledger.proofs.Kept.{completes}
use Rattle.txn_ledger.proofs.tokens.complete.Goals as goal

pub returns-then-is_none : goal.returns-then-is_none
returns-then-is_none g c other = search (completes, rules)
