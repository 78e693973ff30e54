use Rattle.std.proofs.Common.{◌≡◌, ℕ, drop}
use Rattle.control_cell.specs.Begins.{have_tables}
use Rattle.control_cell.proofs.beginning.has_tables.Given as goal

abbrev pub invariant-loop-action : goal.invariant-loop-action
invariant-loop-action g l =
    (n : ℕ) → have_tables (g.R.Rules.protocol n) l.catalog l.actions ≡ have_tables (g.R.Rules.protocol n) l.catalog (drop l.action-index l.actions)
