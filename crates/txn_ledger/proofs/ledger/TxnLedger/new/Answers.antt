use Rattle.std.specs.Ordering.{nat_cmp}
use Rattle.std.specs.BTreeMap.{is_at}
use Rattle.std.specs.FinMap as map
use Rattle.std.specs.Map.{lookup}
use Rattle.std.proofs.Common.{sym, ap, ◌∙◌}
use Rattle.txn_ledger.proofs.Links.{none_linked}
use Rattle.txn_ledger.proofs.ledger.TxnLedger.new.Goals as goal

pub invariant_of-result : goal.invariant_of-result
invariant_of-result g c =
    record {
      linked = λ token kept found. none_linked c.new.result 1 token kept (ap (λ m. map.get m token) (sym c.in_ok-make.ensures) ∙ found);
      drawn = λ number past. ap (λ es. lookup (is_at (nat_cmp number)) es) c.new.ensures.empty;
    }
