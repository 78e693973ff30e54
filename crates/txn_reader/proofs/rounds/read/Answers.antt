use Rattle.std.proofs.Common.{◌-◌, Some, reverse, ap, sym, ◌∙◌}
use Rattle.txn_reader.proofs.Counted.{is_answered, counts_read, counts_gone}
use Rattle.txn_reader.proofs.rounds.read.Goals as goal

pub ask-requires-clause-sent : goal.ask-requires-clause-sent
ask-requires-clause-sent g c =
    ap Some
    (ap ((g.R.Rules.protocol (c.args.caller.now.id.slots - 1)).core.cell_of) c.in_ok-key.ensures ∙ sym c.cell_of-cell.ensures.cell)

pub unreachable-requires : goal.unreachable-requires
unreachable-requires g c =
    is_answered (g.R.Rules.protocol (c.args.caller.now.id.slots - 1)) (reverse c.args.pass.now.front) (reverse c.ask.new.pass.front)
    c.args.pass.now (Some c.cell_of-cell.result) c.in_ok-key.key c.in_ok-answer.answer c.in_ok-answer.ensures.later c.in_default.not-Version
    c.in_default.not-Stale

pub returns-in-Version-clause-ok : goal.returns-in-Version-clause-ok
returns-in-Version-clause-ok g c =
    counts_read (g.R.Rules.protocol (c.args.caller.now.id.slots - 1)) c.args.pass.now c.ask.new.pass c.cell_of-cell.result c.args.key.now
    c.in_ok-key.key c.in_ok-answer.answer
    record { item = c.in-Version.item; version = c.in-Version.version; held = c.in-Version.held }
    c.cell_of-cell.ensures.cell c.in_ok-key.ensures c.in-Version.is c.in_ok-answer.ensures.ok

pub returns-in-Stale-clause-ok : goal.returns-in-Stale-clause-ok
returns-in-Stale-clause-ok g c =
    counts_gone (g.R.Rules.protocol (c.args.caller.now.id.slots - 1)) c.args.pass.now c.ask.new.pass c.cell_of-cell.result c.args.key.now
    c.in_ok-key.key c.in_ok-answer.answer c.cell_of-cell.ensures.cell c.in_ok-key.ensures c.in-Stale.is c.in_ok-answer.ensures.ok
