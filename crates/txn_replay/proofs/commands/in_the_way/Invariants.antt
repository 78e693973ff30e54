use Rattle.std.proofs.Common.{ℕ, ◌<◌}
use Rattle.txn_core.specs.Cells.{IsClearThere}
use Rattle.txn_core.specs.Service.{History}
use Rattle.txn_replay.specs.Standing.{EachStands, own}
use Rattle.txn_replay.proofs.commands.in_the_way.Given as goal

abbrev pub invariant-loop-cell : goal.invariant-loop-cell
invariant-loop-cell g l =
    (n : ℕ) (es : History (g.R.Rules.protocol n)) → EachStands (g.R.Rules.protocol n) g.R.CellRules.locals l.cells es → (j : ℕ)
    → j < l.cell-index → IsClearThere (g.R.Rules.protocol n) (own (g.R.Rules.protocol n) es j) l.command j
