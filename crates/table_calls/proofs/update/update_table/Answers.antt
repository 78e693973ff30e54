use Rattle.table_calls.proofs.ChangeTold.{change_told_of, updated_of}
use Rattle.table_calls.proofs.update.update_table.Goals as goal

pub update_reply-requires : goal.update_reply-requires
update_reply-requires g c =
    let n = g.C.Asks.count c.args.cells.now in
    let p = g.C.Asks.seen c.args.pass.now in
    let q = g.C.Asks.seen c.command.new.pass in
    change_told_of n p q c.args.request c.in_ok-name.name c.in_ok-removed.removed c.in_ok-name.ensures c.in_ok-removed.ensures c.in_ok-ruled.ruled
    c.in_ok-ruled.ensures.ok

pub returns-clause-ok : goal.returns-clause-ok
returns-clause-ok g c =
    let n = g.C.Asks.count c.args.cells.now in
    let p = g.C.Asks.seen c.args.pass.now in
    let q = g.C.Asks.seen c.command.new.pass in
    updated_of n p q c.args.request c.in_ok-name.name c.in_ok-removed.removed c.in_ok-name.ensures c.in_ok-removed.ensures c.in_ok-ruled.ruled
    c.in_ok-ruled.ensures.ok c.update_reply.result c.update_reply.ensures
