use Rattle.std.proofs.Common.{◌-◌, refl, sym, ◌∙◌, subst}
use Rattle.coordinator.specs.Driving.{Fails}
use Rattle.cluster.proofs.Handed.{handed_on}
use Rattle.cluster.proofs.Rest.{still_at_rest}
use Rattle.coordinator.proofs.Driven.{fails_on, goes_on, rests}
use Rattle.coordinator.specs.declared.gate.Pace.{Pace}
use Rattle.coordinator.proofs.Stopping.{in_words, let_pass, not_asked, not_ok}
use Rattle.coordinator.proofs.run.take_steps.Goals as goal

pub loop-point-init : goal.loop-point-init
loop-point-init g c =
    record {
      advances = rests (g.R.Rules.protocol (c.args.caller.now.id.slots - 1)) c.args.pass.now c.args.driver.now c.requires.driver;
      same = refl;
    }

pub advance-requires-clause-rests : goal.advance-requires-clause-rests
advance-requires-clause-rests g c =
    still_at_rest c.args.caller.now c.args.pass.now c.loop-point.pass c.loop-point.invariant.advances.added.pass c.requires.rests

pub advance-requires-clause-driver : goal.advance-requires-clause-driver
advance-requires-clause-driver g c = c.loop-point.invariant.advances.knows

pub loop-point-preserved : goal.loop-point-preserved
loop-point-preserved g c =
    let inv = c.loop-point.invariant in
    record {
      advances =
          goes_on (g.R.Rules.protocol (c.args.caller.now.id.slots - 1)) c.args.pass.now c.loop-point.pass c.advance.new.pass c.args.driver.now
          c.loop-point.driver c.advance.new.driver inv.advances c.in_ok-point.ensures.ok;
      same = c.pace_at.ensures.gate.obeyed (λ stop. absurd (let e = sym c.in-Go.is ∙ stop in cc)) ∙ inv.same;
    }

pub returns-in-Stop-clause-ok : goal.returns-in-Stop-clause-ok
returns-in-Stop-clause-ok g c =
    goes_on (g.R.Rules.protocol (c.args.caller.now.id.slots - 1)) c.args.pass.now c.loop-point.pass c.advance.new.pass c.args.driver.now
    c.loop-point.driver c.advance.new.driver c.loop-point.invariant.advances c.in_ok-point.ensures.ok

pub returns-in_err-point-clause-err : goal.returns-in_err-point-clause-err
returns-in_err-point-clause-err g c =
    let S = g.R.Rules.protocol (c.args.caller.now.id.slots - 1) in
    let p = c.args.pass.now in
    let q = c.advance.new.pass in
    let d = c.args.driver.now in
    let v = c.in_err-point.field-0.0 in
    handed_on c.from_residual.result (λ e. Fails S p d e q) _ c.from_residual.ensures.1
    (λ e same. subst (λ z. Fails S p d z q) (sym same)
    (fails_on S p c.loop-point.pass q d c.loop-point.driver v c.loop-point.invariant.advances c.in_err-point.ensures.err))

pub returns-in-Stop-clause-gate : goal.returns-in-Stop-clause-gate
returns-in-Stop-clause-gate g c =
    let_pass _ _ _ _ c.loop-point.invariant.same (in_words _ _ _ _ (λ _. refl) (λ _. c.in-Stop.is) c.pace_at.ensures.gate)

pub returns-in_err-point-clause-gate : goal.returns-in_err-point-clause-gate
returns-in_err-point-clause-gate g c =
    let_pass _ _ _ _ c.loop-point.invariant.same (not_asked _ _ (not_ok c.from_residual.result _ c.from_residual.ensures.1 Pace.Stop))

pub returns-clause-gate : goal.returns-clause-gate
returns-clause-gate g c =
    let_pass _ _ _ _ c.loop-point.invariant.same (not_asked _ _ (λ e. cc))
