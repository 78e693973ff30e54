use Rattle.std.proofs.Common.{rules, ◌-◌, subst}
use Rattle.std.proofs.lemmas.Result.{err_from_is_err_and}
use Rattle.recovery_manager.proofs.Expired.{expires_all, expires_nothing, expires_partly, units_few}
use Rattle.recovery_manager.specs.Expiries.{ExpiresAll, ExpiresSome}
use Rattle.recovery_manager.proofs.expiring.expire.Goals as goal

pub returns-in_err-keys-clause-err : goal.returns-in_err-keys-clause-err
returns-in_err-keys-clause-err g c =
    let S = g.R.Rules.protocol (c.args.caller.now.id.slots - 1) in
    let e = err_from_is_err_and c.from_residual.result c.from_residual.ensures.1 in
    rw (e.1, e.2) (expires_nothing S c.args.limit c.args.cell c.args.pass.now c.in_err-keys.field-0.0 c.expired_keys.new.pass c.in_err-keys.ensures.err)

pub returns-in_err-removed-clause-err : goal.returns-in_err-removed-clause-err
returns-in_err-removed-clause-err g c =
    let S = g.R.Rules.protocol (c.args.caller.now.id.slots - 1) in
    let e = err_from_is_err_and c.from_residual-in_err-removed.result c.from_residual-in_err-removed.ensures.1 in
    let q = c.expired_keys.new.pass in
    let why = c.in_err-removed.field-0.0 in
    let r = c.expire_all.new.pass in
    let some = subst (λ keys. ExpiresSome S keys q why r) c.as_slice.ensures c.in_err-removed.ensures.err in
    rw (e.1, e.2) (expires_partly S c.args.limit c.args.cell c.args.pass.now c.in_ok-keys.keys q c.in_ok-keys.ensures.ok why r some)

pub returns-clause-ok : goal.returns-clause-ok
returns-clause-ok g c =
    let S = g.R.Rules.protocol (c.args.caller.now.id.slots - 1) in
    let q = c.expired_keys.new.pass in
    let r = c.expire_all.new.pass in
    let all = subst (λ keys. ExpiresAll S keys q c.in_ok-removed.removed r) c.as_slice.ensures c.in_ok-removed.ensures.ok in
    expires_all S c.args.limit c.args.cell c.args.pass.now c.in_ok-keys.keys q c.in_ok-keys.ensures.ok c.in_ok-removed.removed r all _ (search rules)

pub returns-clause-units : goal.returns-clause-units
returns-clause-units g c =
    let S = g.R.Rules.protocol (c.args.caller.now.id.slots - 1) in
    let q = c.expired_keys.new.pass in
    let r = c.expire_all.new.pass in
    let all = subst (λ keys. ExpiresAll S keys q c.in_ok-removed.removed r) c.as_slice.ensures c.in_ok-removed.ensures.ok in
    units_few S c.args.limit c.args.cell c.args.pass.now c.in_ok-keys.keys q c.in_ok-keys.ensures.ok c.in_ok-removed.removed r all
