use Rattle.table_calls.proofs.TtlTold.{ttl_told_of, expired_of}
use Rattle.table_calls.proofs.expiry.update_time_to_live.Goals as goal

pub ttl_reply-requires : goal.ttl_reply-requires
ttl_reply-requires g c =
    let n = g.C.Asks.count c.args.cells.now in
    let p = g.C.Asks.seen c.args.pass.now in
    let q = g.C.Asks.seen c.command.new.pass in
    ttl_told_of n p q c.args.request c.in_ok-kept.kept c.in_ok-kept.ensures c.in_ok-ruled.ruled c.in_ok-ruled.ensures.ok

pub returns-clause-ok : goal.returns-clause-ok
returns-clause-ok g c =
    let n = g.C.Asks.count c.args.cells.now in
    let p = g.C.Asks.seen c.args.pass.now in
    let q = g.C.Asks.seen c.command.new.pass in
    expired_of n p q c.args.request c.in_ok-kept.kept c.in_ok-kept.ensures c.in_ok-ruled.ruled c.in_ok-ruled.ensures.ok c.ttl_reply.result c.ttl_reply.ensures
