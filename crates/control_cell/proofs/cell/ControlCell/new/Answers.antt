use Rattle.std.specs.Ordering.{nat_cmp}
use Rattle.std.specs.BTreeMap.{is_at}
use Rattle.std.specs.Cmp.Lexicographic.{nat_list_cmp_total}
use Rattle.std.specs.FinMap as map
use Rattle.std.specs.Map.{lookup}
use Rattle.std.proofs.Common.{[], ap, ◌∙◌}
use Rattle.control_cell.proofs.Entries.{empty_keeps}
use Rattle.control_cell.proofs.cell.ControlCell.new.Goals as goal

pub returns : goal.returns
returns g c =
    let d = c.in_ok-ledger.ensures in
    λ n.
    record {
      catalog_is = c.in_ok-catalog.ensures n;
      keeps =
          empty_keeps (g.R.Rules.protocol n) c.in_ok-ledger.ledger d.next (λ k. ap (λ es. lookup (is_at (nat_cmp k)) es) d.records)
          (λ token. ap (λ m. map.get m token) d.tokens ∙ map.get-from_entries nat_list_cmp_total [] token);
    }
