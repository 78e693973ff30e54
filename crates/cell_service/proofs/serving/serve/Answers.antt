use Rattle.std.proofs.Common.{subst}
use Rattle.request_calls.specs.Requests.{Tries}
use Rattle.cell_service.proofs.Told.{served}
use Rattle.cell_service.proofs.serving.serve.Goals as goal

pub returns-in-Ok-Reply-clause-served : goal.returns-in-Ok-Reply-clause-served
returns-in-Ok-Reply-clause-served g c =
    let n = g.C.Asks.count c.args.cells.now in
    let p = g.C.Asks.seen c.args.pass.now in
    let q = g.C.Asks.seen c.try_request.new.pass in
    let tries = subst (λ x. Tries n p c.args.request x q) c.in-Ok-Reply.field-0-is c.in-Ok-Reply.ensures.ok in
    served n p c.args.request c.in-Ok-Reply.reply q tries c.may_wait-may_wait.result c.may_wait-may_wait.ensures
    c.serve_reply.result.answer c.serve_reply.ensures.told
