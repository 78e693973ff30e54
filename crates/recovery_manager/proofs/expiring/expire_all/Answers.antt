use Rattle.std.proofs.Common.{◌≡◌, ◌-◌, ◌+◌, ◌≤◌, cond, arith}
use Rattle.std.proofs.lemmas.Result.{err_from_is_err_and}
use Rattle.recovery_manager.proofs.Expired.{expires_more, expires_none, expires_until}
use Rattle.recovery_manager.proofs.expiring.expire_all.Goals as goal
use Rattle.recovery_manager.proofs.expiring.expire_all.Goals.{then-branch, else-branch}

pub loop-key-init : goal.loop-key-init
loop-key-init g c = (expires_none (g.R.Rules.protocol (c.args.caller.now.id.slots - 1)) c.args.pass.now c.args.keys.now, omega arith)

pub loop-key-preserved : goal.loop-key-preserved
loop-key-preserved g c =
    let l = c.loop-key in
    let few = l.invariant.1 in
    let now = c.if-branch.removed in
    let one = c.in_ok-expire_one.field-0 in
    let counted : (now ≡ l.removed + cond one 1 0) × (now ≤ l.key-index + 1) =
    elim c.if-branch.branch [
      | then-branch w ↦ (rw w.if-branch.true w.removed-is, let is = w.removed-is in omega arith)
      | else-branch w ↦ (rw w.if-branch.false (let is = w.removed-is in omega arith), let is = w.removed-is in omega arith)
    ] in (
      expires_more (g.R.Rules.protocol (c.args.caller.now.id.slots - 1)) l.key-index c.args.keys.now c.args.pass.now l.removed l.pass l.invariant.0
          c.key-item.result c.loop-key-test.true c.key-item.is one c.expire_one.new.pass c.in_ok-expire_one.ensures.ok now counted.0,
      counted.1,
    )

pub returns-in_err-expire_one-clause-err : goal.returns-in_err-expire_one-clause-err
returns-in_err-expire_one-clause-err g c =
    let l = c.loop-key in
    let within = c.loop-key-test.true in
    let e = err_from_is_err_and c.from_residual.result c.from_residual.ensures.1 in
    rw (e.1, e.2)
    (expires_until (g.R.Rules.protocol (c.args.caller.now.id.slots - 1)) l.key-index c.args.keys.now c.args.pass.now l.removed l.pass l.invariant.0
    (omega arith) c.in_err-expire_one.field-0.0 c.expire_one.new.pass c.in_err-expire_one.ensures.err)
