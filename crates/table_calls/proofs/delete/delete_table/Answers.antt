use Rattle.table_calls.proofs.DropTold.{drop_told_of, deleted_of}
use Rattle.table_calls.proofs.delete.delete_table.Goals as goal

pub delete_reply-requires : goal.delete_reply-requires
delete_reply-requires g c =
    let n = g.C.Asks.count c.args.cells.now in
    let p = g.C.Asks.seen c.args.pass.now in
    let q = g.C.Asks.seen c.command.new.pass in
    drop_told_of n p q c.args.request c.in_ok-name.name c.in_ok-name.ensures c.in_ok-ruled.ruled c.in_ok-ruled.ensures.ok

pub returns-clause-ok : goal.returns-clause-ok
returns-clause-ok g c =
    let n = g.C.Asks.count c.args.cells.now in
    let p = g.C.Asks.seen c.args.pass.now in
    let q = g.C.Asks.seen c.command.new.pass in
    deleted_of n p q c.args.request c.in_ok-name.name c.in_ok-name.ensures c.in_ok-ruled.ruled c.in_ok-ruled.ensures.ok
    c.delete_reply.result c.delete_reply.ensures
