use Rattle.std.proofs.Common.{◌-◌, reverse, sym, ap, ◌∙◌, subst}
use Rattle.coordinator.specs.Driving.{Fails}
use Rattle.coordinator.proofs.Deciding.{cancel_advances, cancel_allowed, cancel_fails, cancel_known}
use Rattle.cluster.proofs.Handed.{handed_on}
use Rattle.coordinator.proofs.decision.cancel.Goals as goal

pub decide-requires-clause-may : goal.decide-requires-clause-may
decide-requires-clause-may g c =
    cancel_allowed (g.R.Rules.protocol (c.args.caller.now.id.slots - 1)) (reverse c.args.pass.now.front) c.args.driver.now c.args.pass.now.number
    c.replace-carried.result c.requires.driver c.requires.next c.replace-carried.ensures.value

pub returns-in_err-decide-clause-err : goal.returns-in_err-decide-clause-err
returns-in_err-decide-clause-err g c =
    let S = g.R.Rules.protocol (c.args.caller.now.id.slots - 1) in
    let p = c.args.pass.now in
    let q = c.decide.new.pass in
    let d = c.args.driver.now in
    let v = c.in_err-decide.field-0.0 in
    handed_on c.from_residual.result (λ e. Fails S p d e q) _ c.from_residual.ensures.1
    (λ e same. subst (λ z. Fails S p d z q) (sym same) (cancel_fails S p q d c.replace-carried.new.dest v c.in_err-decide.ensures.err))

pub returns-then-branch-clause-ok : goal.returns-then-branch-clause-ok
returns-then-branch-clause-ok g c =
    let S = g.R.Rules.protocol (c.args.caller.now.id.slots - 1) in
    let is = c.requires.driver in
    let made = is.ready (c.requires.next is.told is.told_so) in
    cancel_known S c.args.pass.now c.decide.new.pass c.args.driver.now c.decide.new.driver c.replace-carried.new.dest c.replace-copy.result
    c.replace-copy.new.dest c.in_ok-decide.ensures.ok (c.in_ok-decide.ensures.fate c.if-branch.true)
    (c.in_ok-decide.ensures.reasons c.if-branch.true ∙ (c.replace-carried.ensures.value ∙ (sym made.copy ∙ (sym (ap (λ z. z.copy) c.in_ok-decide.ensures.same) ∙ sym c.replace-copy.ensures.value))))

pub returns-else-branch-clause-ok : goal.returns-else-branch-clause-ok
returns-else-branch-clause-ok g c =
    cancel_advances (g.R.Rules.protocol (c.args.caller.now.id.slots - 1)) c.args.pass.now c.decide.new.pass c.args.driver.now c.decide.new.driver
    c.replace-carried.new.dest c.in_ok-decide.ensures.ok
