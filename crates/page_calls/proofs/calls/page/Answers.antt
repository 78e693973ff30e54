use Rattle.std.proofs.Common.{Some, subst}
use Rattle.page_calls.specs.Steps.{asked_of, IsKeptRead}
use Rattle.page_calls.proofs.Tries.{known_page}
use Rattle.page_calls.proofs.calls.page.Goals as goal

pub returns-in-Some-Told-clause-ok : goal.returns-in-Some-Told-clause-ok
returns-in-Some-Told-clause-ok g c =
    let n = g.C.Asks.count c.args.cells.now in
    let p = g.C.Asks.seen c.args.pass.now in
    let asked = asked_of c.args.asked in
    let q = g.C.Asks.seen c.read_kept.new.pass in
    let known = subst (λ o. IsKeptRead n p asked o q) c.in-Some-Told.is c.in_ok-reply.ensures.ok in
    known_page n p asked c.in-Some-Told.reply q (subst (λ read. IsKeptRead n p asked (Some read) q) c.in-Some-Told.field-0-is known)
