use Rattle.cell_asks.proofs.Trails.{told_gives_up}
use Rattle.transact_calls.proofs.Ended.{told_gone}
use Rattle.transact_calls.proofs.write.tell.Goals as goal

pub returns-in_err-name-in-NoTable-clause-told : goal.returns-in_err-name-in-NoTable-clause-told
returns-in_err-name-in-NoTable-clause-told g c =
    told_gives_up (g.C.Asks.count c.args.cells.now) (g.C.Asks.seen c.args.pass.now) c.in_err-name-in-NoTable.field-0.0 (g.C.Asks.seen c.gone_name.new.pass)
    c.in_err-name-in-NoTable.ensures.err c.args.looks.now c.requires.told

pub returns-in_ok-name-in-NoTable-clause-told : goal.returns-in_ok-name-in-NoTable-clause-told
returns-in_ok-name-in-NoTable-clause-told g c =
    told_gone (g.C.Asks.count c.args.cells.now) (g.C.Asks.seen c.args.pass.now) c.args.actions.now c.in-NoTable.place c.in_ok-name-in-NoTable.name
    (g.C.Asks.seen c.gone_name.new.pass) c.in_ok-name-in-NoTable.ensures.ok c.args.looks.now c.requires.told
