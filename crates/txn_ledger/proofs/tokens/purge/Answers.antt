use Rattle.std.proofs.Common.{ap, ◌∙◌}
use Rattle.std.specs.FinMap.{get}
use Rattle.txn_ledger.proofs.Kept.{purges}
use Rattle.txn_ledger.proofs.tokens.purge.Goals as goal

pub returns : goal.returns
returns g c other = ap (λ m. get m other) c.purge.ensures ∙ purges c.args.tokens.now c.args.moment other
