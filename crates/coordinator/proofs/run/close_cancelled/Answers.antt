use Rattle.std.proofs.Common.{◌-◌, IfSome, sym, ◌∙◌, subst}
use Rattle.coordinator.specs.Driving.{Recalls}
use Rattle.coordinator.specs.Drives.{Ends}
use Rattle.coordinator.proofs.Closing.{cancelled_goes_on, closes_forgotten, closes_in_vain, closes_known, closes_recalled, none_so}
use Rattle.coordinator.proofs.run.close_cancelled.Goals as goal

pub returns-in-Some-clause-ends : goal.returns-in-Some-clause-ends
returns-in-Some-clause-ends g c =
    let S = g.R.Rules.protocol (c.args.caller.now.id.slots - 1) in
    let p = c.args.pass.now in
    let d = c.args.driver in
    subst (λ end. Ends S 1 p d p end) (sym c.cancelled.ensures)
    (closes_known S p d c.requires.driver c.requires.end c.requires.cancelled c.in-Some.reasons c.in-Some.is)

pub returns-in-Err-clause-ends : goal.returns-in-Err-clause-ends
returns-in-Err-clause-ends g c =
    let S = g.R.Rules.protocol (c.args.caller.now.id.slots - 1) in
    let p = c.args.pass.now in
    let q = c.ask_record.new.pass in
    let d = c.args.driver in
    subst (λ end. Ends S 1 p d q end) (sym c.given_up.ensures)
    (closes_in_vain S p d c.requires.driver c.requires.end c.requires.cancelled q c.in-Err.error c.in-Err.ensures.err)

pub returns-in_default-found-clause-ends : goal.returns-in_default-found-clause-ends
returns-in_default-found-clause-ends g c =
    closes_forgotten (g.R.Rules.protocol (c.args.caller.now.id.slots - 1)) c.args.pass.now c.args.driver c.requires.driver c.requires.end
    c.requires.cancelled c.ask_record.new.pass (none_so c.in-Ok.found _ c.in-Ok.ensures.unknown c.in_default-found.not-Some)

pub returns-clause-ends : goal.returns-clause-ends
returns-clause-ends g c =
    let n = c.args.caller.now.id.slots - 1 in
    let S = g.R.Rules.protocol n in
    let p = c.args.pass.now in
    let q = c.ask_record.new.pass in
    let d = c.args.driver in
    subst (λ end. Ends S 1 p d q end) (sym c.cancelled-2.ensures)
    (closes_recalled S p d c.requires.driver c.requires.end c.requires.cancelled (g.met.R.Rules.lawful n) q c.in-Some-found.record
    (subst (λ o. IfSome o (λ r. Recalls S d.number p r q)) c.in-Some-found.is c.in-Ok.ensures.known))

pub returns-clause-not_stopped : goal.returns-clause-not_stopped
returns-clause-not_stopped g c =
    λ stopped. cancelled_goes_on c.in-Some-found.record.reasons c.args.driver.no_table (sym c.cancelled-2.ensures ∙ stopped)
