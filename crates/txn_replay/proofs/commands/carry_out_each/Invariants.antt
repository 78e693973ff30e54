use Rattle.txn_replay.proofs.Commanded.{CarriedUntil}
use Rattle.txn_replay.proofs.commands.carry_out_each.Given as goal

abbrev pub invariant-loop-place : goal.invariant-loop-place
invariant-loop-place g l =
    CarriedUntil (g.R.Rules.protocol l.partitions) g.R.CellRules.locals l.place l.initial.cells.items l.cells.items l.command l.moment
