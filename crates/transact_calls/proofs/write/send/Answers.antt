use Rattle.std.specs.Option.{option_copied}
use Rattle.std.proofs.lemmas.Result.{IfOk-weaker, IfErr-weaker}
use Rattle.transact_calls.proofs.Ended.{sends, sends_partly, told_wrote}
use Rattle.transact_calls.proofs.write.send.Goals as goal

pub returns-clause-ok : goal.returns-clause-ok
returns-clause-ok g c =
    let n = g.C.Asks.count c.args.cells.now in
    let p = g.C.Asks.seen c.args.pass.now in
    let mid = g.C.Asks.seen c.transact_write-end.new.pass in
    IfOk-weaker c.tell.result _ _
    (λ tried told. sends n p (option_copied c.args.token) c.args.actions.now c.transact_write-end.result mid c.transact_write-end.ensures.end c.args.consumed tried _ told)
    c.tell.ensures.ok

pub returns-clause-err : goal.returns-clause-err
returns-clause-err g c =
    let n = g.C.Asks.count c.args.cells.now in
    let p = g.C.Asks.seen c.args.pass.now in
    let mid = g.C.Asks.seen c.transact_write-end.new.pass in
    IfErr-weaker c.tell.result _ _
    (λ why told. sends_partly n p (option_copied c.args.token) c.args.actions.now c.transact_write-end.result mid c.transact_write-end.ensures.end why _ told)
    c.tell.ensures.err

pub tell-requires-clause-told : goal.tell-requires-clause-told
tell-requires-clause-told g c =
    told_wrote (g.C.Asks.count c.args.cells.now) (g.C.Asks.seen c.args.pass.now) (option_copied c.args.token) c.args.actions.now c.transact_write-end.result
    (g.C.Asks.seen c.transact_write-end.new.pass) c.transact_write-end.ensures.end c.args.looks.now c.requires.told

pub returns-clause-obeyed : goal.returns-clause-obeyed
returns-clause-obeyed g c = λ no. c.transact_write-end.ensures.obeyed (λ is. no (c.tell.ensures.stopped is))
