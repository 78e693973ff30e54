use Rattle.std.proofs.Common.{refl}
use Rattle.txn_replay.proofs.Asked.{control_leads}
use Rattle.txn_replay.proofs.asking.ask_ledger.Goals as goal

pub returns-clause-leads : goal.returns-clause-leads
returns-clause-leads g c = λ n.
    let cells = c.args.cells.now in
    control_leads (g.R.Rules.protocol n) g.R.CellRules.locals (g.met.R.Rules.lawful n) cells c.args.message.now c.args.moment
    c.in_ok-answer.answer (c.requires n)
    record { partitions = cells.partitions; control = c.ask_control.new.cell; catalog = cells.catalog } refl refl
    (c.in_ok-answer.ensures.takes n)
