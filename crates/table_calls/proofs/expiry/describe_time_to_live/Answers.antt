use Rattle.std.proofs.Common.{refl, sym, subst}
use Rattle.cluster.proofs.Handed.{handed_on}
use Rattle.cell_asks.specs.Steps.{GivesUp}
use Rattle.cell_asks.proofs.Trails.{not_told}
use Rattle.table_calls.proofs.Asked.{describes_ttl}
use Rattle.table_calls.proofs.expiry.describe_time_to_live.Goals as goal

pub returns-clause-ok : goal.returns-clause-ok
returns-clause-ok g c =
    let n = g.C.Asks.count c.args.cells.now in
    let p = g.C.Asks.seen c.args.pass.now in
    let q = g.C.Asks.seen c.look.new.pass in
    describes_ttl n p q c.args.request c.in_ok-name.name c.in_ok-told.told c.in_ok-reply.reply c.in_ok-name.ensures
    c.in_ok-told.ensures.ok c.in_ok-reply.ensures

pub returns-in_err-reply-clause-err : goal.returns-in_err-reply-clause-err
returns-in_err-reply-clause-err g c =
    let n = g.C.Asks.count c.args.cells.now in
    let p = g.C.Asks.seen c.args.pass.now in
    let q = g.C.Asks.seen c.look.new.pass in
    handed_on c.from_residual-in_err-reply.result (λ e. GivesUp n p e q) _ c.from_residual-in_err-reply.ensures.1
    (λ e same. subst (λ z. GivesUp n p z q) (sym same) (not_told n p _ _ q c.in_ok-told.ensures.ok refl))
