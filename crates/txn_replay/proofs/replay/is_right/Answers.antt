use Rattle.partition.proofs.Moved.{if_ok_with, on_ok_with}
use Rattle.txn_replay.proofs.Replayed.{advances_on, by_answer, early, early_ends, elsewhere, elsewhere_ends}
use Rattle.txn_replay.proofs.replay.is_right.Goals as goal

pub returns-then-not-is_timely-clause-judges : goal.returns-then-not-is_timely-clause-judges
returns-then-not-is_timely-clause-judges g c =
    early (g.R.Rules.protocol c.args.partitions) g.R.CellRules.locals c.args.cells.now c.args.cells.now c.args.past.now c.args.entry.now
    c.is_timely.result c.is_timely.ensures c.if-not-is_timely.true

pub returns-then-not-is_timely-clause-advances : goal.returns-then-not-is_timely-clause-advances
returns-then-not-is_timely-clause-advances g c =
    early_ends (g.R.Rules.protocol c.args.partitions) g.R.CellRules.locals c.args.cells.now c.args.cells.now c.args.past.now
    c.args.entry.now c.is_timely.result c.is_timely.ensures c.if-not-is_timely.true

pub returns-then-not-is_at-clause-judges : goal.returns-then-not-is_at-clause-judges
returns-then-not-is_at-clause-judges g c =
    elsewhere (g.R.Rules.protocol c.args.partitions) g.R.CellRules.locals c.args.cells.now c.args.cells.now c.args.past.now
    c.args.entry.now c.sent_to.result c.sent_to.ensures c.is_at.result c.is_at.ensures c.if-not-is_at.true

pub returns-then-not-is_at-clause-advances : goal.returns-then-not-is_at-clause-advances
returns-then-not-is_at-clause-advances g c =
    elsewhere_ends (g.R.Rules.protocol c.args.partitions) g.R.CellRules.locals c.args.cells.now c.args.cells.now c.args.past.now
    c.args.entry.now c.sent_to.result c.sent_to.ensures c.is_at.result c.is_at.ensures c.if-not-is_at.true

pub returns-clause-judges : goal.returns-clause-judges
returns-clause-judges g c =
    if_ok_with c.is_answered.result c.is_answered.ensures.judges
    (λ right j.
    by_answer (g.R.Rules.protocol c.args.partitions) g.R.CellRules.locals c.args.cells.now c.is_answered.new.cells c.args.past.now
    c.args.entry.now c.sent_to.result c.sent_to.ensures c.is_at.result c.is_at.ensures c.if-not-is_at.false
    (c.is_timely.ensures.0 c.if-not-is_timely.false) right j)

pub returns-clause-advances : goal.returns-clause-advances
returns-clause-advances g c =
    on_ok_with c.is_answered.result c.is_answered.ensures.advances
    (advances_on (g.R.Rules.protocol c.args.partitions) g.R.CellRules.locals c.args.cells.now c.is_answered.new.cells c.args.past.now
    c.args.entry.now)
