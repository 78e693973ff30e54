use Rattle.std.proofs.Common.{◌-◌, ◌+◌, ◌≤◌, ◌++◌, sym, ap, ◌∙◌, subst, arith}
use Rattle.std.proofs.lemmas.Result.{err_from_is_err_and}
use Rattle.recovery_manager.specs.Lists.{ListsHeld, ListsPartly}
use Rattle.cluster.proofs.Handed.{handed_on}
use Rattle.recovery_manager.proofs.Told.{held_none, held_on, held_until, held_in_vain}
use Rattle.recovery_manager.proofs.listing.all_held.Goals as goal

pub loop-cell-init : goal.loop-cell-init
loop-cell-init g c =
    let S = g.R.Rules.protocol (c.args.caller.now.id.slots - 1) in
    let p = c.args.pass.now in
    subst (λ xs. ListsHeld S 0 p xs p) (sym c.new-held.ensures.items) (held_none S p)

pub loop-cell-preserved : goal.loop-cell-preserved
loop-cell-preserved g c =
    let S = g.R.Rules.protocol (c.args.caller.now.id.slots - 1) in
    let p = c.args.pass.now in
    let i = c.loop-cell.cell in
    let held = c.loop-cell.held.items in
    let r = c.held_in.new.pass in
    subst (λ xs. ListsHeld S (i + 1) p xs r) (sym (c.in_ok-append.ensures.items ∙ ap (λ xs. held ++ xs) c.from.ensures))
    (held_on S i p held c.loop-cell.pass c.loop-cell.invariant c.in_ok-items.items r c.in_ok-items.ensures.ok)

pub returns-in_err-items-clause-err : goal.returns-in_err-items-clause-err
returns-in_err-items-clause-err g c =
    let n = c.args.caller.now.id.slots - 1 in
    let i = c.loop-cell.cell in
    let within : i ≤ n = omega (arith, c.loop-cell-test.true, c.partitions-cell-end.ensures.count) in
    let e = err_from_is_err_and c.from_residual.result c.from_residual.ensures.1 in
    rw (e.1, e.2)
    (held_until (g.R.Rules.protocol n) i c.args.pass.now c.loop-cell.held.items c.loop-cell.pass c.loop-cell.invariant n c.in_err-items.field-0.0
    c.held_in.new.pass within c.in_err-items.ensures.err)

pub returns-in_err-append-clause-err : goal.returns-in_err-append-clause-err
returns-in_err-append-clause-err g c =
    let n = c.args.caller.now.id.slots - 1 in
    let S = g.R.Rules.protocol n in
    let p = c.args.pass.now in
    let i = c.loop-cell.cell in
    let held = c.loop-cell.held.items in
    let r = c.held_in.new.pass in
    let within : i + 1 ≤ n = omega (arith, c.loop-cell-test.true, c.partitions-cell-end.ensures.count) in
    let all = held_on S i p held c.loop-cell.pass c.loop-cell.invariant c.in_ok-items.items r c.in_ok-items.ensures.ok in
    handed_on c.from_residual-in_err-append.result (λ e. ListsPartly S n p e r) _ c.from_residual-in_err-append.ensures.1
    (λ e same. subst (λ z. ListsPartly S n p z r) (sym same) (held_in_vain S (i + 1) p (held ++ c.in_ok-items.items) r all n within))
