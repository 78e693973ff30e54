use Rattle.std.proofs.Common.{rules, ◌≡◌, ◌-◌, [], ◌∷◌, ◌++◌, sym, ap, ◌∙◌, append-nil, append_assoc}
use Rattle.std.proofs.lemmas.Result.{err_from_is_err_and}
use Rattle.std.specs.BTreeSet.{contains}
use Rattle.std.specs.Ordering.{nat_cmp}
use Rattle.recovery_manager.proofs.Freed.{gone_none, gone_on, partly_gone}
use Rattle.recovery_manager.proofs.releasing.release_all.Goals as goal

pub loop-item-init : goal.loop-item-init
loop-item-init g c =
    ([], sym (append-nil c.args.items.items), gone_none (g.R.Rules.protocol (c.args.caller.now.id.slots - 1)) (contains nat_cmp c.args.gone.now) c.args.pass.now)

pub loop-item-preserved : goal.loop-item-preserved
loop-item-preserved g c =
    let S = g.R.Rules.protocol (c.args.caller.now.id.slots - 1) in
    let inv = c.loop-item.invariant in
    let item = c.in-Some.item in
    let rest = c.pop.new.self.items in
    let popped : c.loop-item.items.items ≡ rest ++ item ∷ [] = search rules in (
      item ∷ inv.0,
      inv.1 ∙ (ap (λ xs. xs ++ inv.0) popped ∙ append_assoc rest (item ∷ []) inv.0),
      gone_on S (contains nat_cmp c.args.gone.now) item inv.0 c.args.pass.now c.loop-item.pass inv.2 c.release_gone.new.pass c.in_ok-release_gone.ensures.ok,
    )

pub returns-in_err-release_gone-clause-err : goal.returns-in_err-release_gone-clause-err
returns-in_err-release_gone-clause-err g c =
    let S = g.R.Rules.protocol (c.args.caller.now.id.slots - 1) in
    let inv = c.loop-item.invariant in
    let item = c.in-Some.item in
    let rest = c.pop.new.self.items in
    let popped : c.loop-item.items.items ≡ rest ++ item ∷ [] = search rules in
    let e = err_from_is_err_and c.from_residual.result c.from_residual.ensures.1 in
    rw (e.1, e.2)
    (partly_gone S (contains nat_cmp c.args.gone.now) item inv.0 c.args.pass.now c.loop-item.pass inv.2 c.args.items.items rest
    (inv.1 ∙ (ap (λ xs. xs ++ inv.0) popped ∙ append_assoc rest (item ∷ []) inv.0)) c.in_err-release_gone.field-0.0 c.release_gone.new.pass
    c.in_err-release_gone.ensures.err)
