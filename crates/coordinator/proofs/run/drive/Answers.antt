use Rattle.std.proofs.Common.{◌-◌, IfSome, sym, ◌∙◌, subst}
use Rattle.coordinator.specs.Driving.{Begins}
use Rattle.coordinator.specs.Drives.{Drives}
use Rattle.coordinator.proofs.Closing.{drives_in_vain, drives_whole, given_up_goes_on}
use Rattle.coordinator.proofs.run.drive.Goals as goal

pub returns-in-Err-clause-drives : goal.returns-in-Err-clause-drives
returns-in-Err-clause-drives g c =
    let S = g.R.Rules.protocol (c.args.caller.now.id.slots - 1) in
    subst (λ end. Drives S c.args.number c.args.pass.now c.recall.new.pass end) (sym c.given_up.ensures)
    (drives_in_vain S c.args.number c.args.pass.now c.recall.new.pass c.in-Err.error c.in-Err.ensures.err)

pub returns-in-Err-clause-stopped : goal.returns-in-Err-clause-stopped
returns-in-Err-clause-stopped g c = λ e. absurd (given_up_goes_on c.in-Err.error (sym c.given_up.ensures ∙ e))

pub returns-clause-drives : goal.returns-clause-drives
returns-clause-drives g c =
    let n = c.args.caller.now.id.slots - 1 in
    let S = g.R.Rules.protocol n in
    let p = c.args.pass.now in
    let q = c.recall.new.pass in
    drives_whole S (g.met.R.Rules.lawful n) c.args.number p q c.drive_on-end.new.pass c.in-Some.driver c.drive_on-end.result
    (subst (λ o. IfSome o (λ d. Begins S c.args.number p q d)) c.in-Some.is c.in-Ok.ensures.driver) c.drive_on-end.ensures.ends c.facts.ensures.legal

pub returns-clause-stopped : goal.returns-clause-stopped
returns-clause-stopped g c =
    c.drive_on-end.ensures.gate.stopped

pub returns-clause-later : goal.returns-clause-later
returns-clause-later g c =
    c.drive_on-end.ensures.gate.later

pub returns-clause-obeyed : goal.returns-clause-obeyed
returns-clause-obeyed g c =
    c.drive_on-end.ensures.gate.obeyed
