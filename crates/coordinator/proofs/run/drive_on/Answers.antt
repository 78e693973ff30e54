use Rattle.std.proofs.Common.{Ok, refl, ◌-◌, ◌+◌, sym, ap, ◌∙◌, subst}
use Rattle.txn_core.specs.Driver.{course_left}
use Rattle.cluster.proofs.Rest.{still_at_rest}
use Rattle.coordinator.specs.Drives.{Ends}
use Rattle.coordinator.proofs.Closing.{ends_closed, ends_failed, ends_stopped, given_up_goes_on}
use Rattle.coordinator.proofs.Stopping.{in_words}
use Rattle.coordinator.proofs.run.drive_on.Goals as goal

pub returns-in-Err-clause-ends : goal.returns-in-Err-clause-ends
returns-in-Err-clause-ends g c =
    let S = g.R.Rules.protocol (c.args.caller.now.id.slots - 1) in
    let d = c.args.driver in
    subst (λ end. Ends S (course_left d.course + 1) c.args.pass.now d c.take_steps.new.pass end) (sym c.given_up.ensures)
    (ends_failed S c.args.pass.now c.take_steps.new.pass d c.in-Err.error c.in-Err.ensures.err)

pub close-requires-clause-rests : goal.close-requires-clause-rests
close-requires-clause-rests g c =
    still_at_rest c.args.caller.now c.args.pass.now c.take_steps.new.pass c.in-Ok.ensures.ok.added.pass c.requires.rests

pub close-requires-clause-driver : goal.close-requires-clause-driver
close-requires-clause-driver g c = c.in-Ok.ensures.ok.knows

pub close-requires-clause-end : goal.close-requires-clause-end
close-requires-clause-end g c = c.in-Ok.ensures.ended c.in-Go.is

pub returns-in-Go-clause-ends : goal.returns-in-Go-clause-ends
returns-in-Go-clause-ends g c =
    ends_closed (g.R.Rules.protocol (c.args.caller.now.id.slots - 1)) c.args.pass.now c.take_steps.new.pass c.args.driver c.close.new.pass
    c.take_steps.new.driver c.close.result c.in-Ok.ensures.ok c.close.ensures.ends

pub returns-in-Stop-clause-ends : goal.returns-in-Stop-clause-ends
returns-in-Stop-clause-ends g c =
    ends_stopped (g.R.Rules.protocol (c.args.caller.now.id.slots - 1)) c.args.pass.now c.take_steps.new.pass c.args.driver c.take_steps.new.driver
    c.in-Ok.ensures.ok (c.in-Ok.ensures.there c.in-Stop.is)

pub returns-in-Err-clause-gate : goal.returns-in-Err-clause-gate
returns-in-Err-clause-gate g c =
    in_words _ _ _ _ (λ p. absurd (let e = sym c.in-Err.is ∙ p in cc))
    (λ q. absurd (given_up_goes_on c.in-Err.error (sym c.given_up.ensures ∙ q))) c.take_steps.ensures.gate

pub returns-in-Go-clause-gate : goal.returns-in-Go-clause-gate
returns-in-Go-clause-gate g c =
    in_words _ _ _ _ (λ p. absurd (let e = sym c.in-Ok.is ∙ p in let go = c.in-Go.is in cc)) (λ q. absurd (c.close.ensures.not_stopped q))
    c.take_steps.ensures.gate

pub returns-in-Stop-clause-gate : goal.returns-in-Stop-clause-gate
returns-in-Stop-clause-gate g c =
    in_words _ _ _ _ (λ _. refl) (λ _. c.in-Ok.is ∙ ap Ok c.in-Stop.is) c.take_steps.ensures.gate
