use Rattle.table_calls.proofs.CreateTold.{create_told_of, created_of}
use Rattle.table_calls.proofs.create.create_table.Goals as goal

pub create_reply-requires : goal.create_reply-requires
create_reply-requires g c =
    let n = g.C.Asks.count c.args.cells.now in
    let p = g.C.Asks.seen c.args.pass.now in
    let q = g.C.Asks.seen c.command.new.pass in
    create_told_of n p q c.args.request c.in_ok-made.made c.moment.result c.in_ok-made.ensures c.moment.ensures c.in_ok-ruled.ruled c.in_ok-ruled.ensures.ok

pub returns-clause-ok : goal.returns-clause-ok
returns-clause-ok g c =
    let n = g.C.Asks.count c.args.cells.now in
    let p = g.C.Asks.seen c.args.pass.now in
    let q = g.C.Asks.seen c.command.new.pass in
    created_of n p q c.args.request c.in_ok-made.made c.moment.result c.in_ok-made.ensures c.moment.ensures c.in_ok-ruled.ruled c.in_ok-ruled.ensures.ok
    c.create_reply.result c.create_reply.ensures
