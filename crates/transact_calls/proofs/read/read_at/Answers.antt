use Rattle.std.proofs.Common.{reverse}
use Rattle.std.proofs.lemmas.Result.{IfErr-weaker}
use Rattle.transact_calls.proofs.Rounds.{read_gives_up, told_read}
use Rattle.transact_calls.proofs.read.read_at.Goals as goal

pub returns-clause-err : goal.returns-clause-err
returns-clause-err g c =
    let n = g.C.Asks.count c.args.cells.now in
    let p = g.C.Asks.seen c.args.pass.now in
    let q = g.C.Asks.seen c.transact_get-end.new.pass in
    IfErr-weaker c.tell.result _ _
    (λ why told. read_gives_up n p c.args.keys.now c.transact_get-end.result q c.transact_get-end.ensures.end why told)
    c.tell.ensures.err

pub returns-clause-told : goal.returns-clause-told
returns-clause-told g c =
    let n = g.C.Asks.count c.args.cells.now in
    let p = g.C.Asks.seen c.args.pass.now in
    let q = g.C.Asks.seen c.transact_get-end.new.pass in
    c.tell.ensures.told (reverse q.front)
    (told_read n p c.args.keys.now c.transact_get-end.result q c.transact_get-end.ensures.end c.args.looks.now c.requires.told)
