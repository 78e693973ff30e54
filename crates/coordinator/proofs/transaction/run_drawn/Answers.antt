use Rattle.std.proofs.Common.{◌-◌, refl, sym, ◌∙◌}
use Rattle.cluster.proofs.Rest.{still_at_rest}
use Rattle.coordinator.proofs.Writing.{begins_driver, over_done, runs_done, runs_undone, still_own, stopped_drawn}
use Rattle.coordinator.proofs.Stopping.{let_pass, stops_here}
use Rattle.coordinator.proofs.transaction.run_drawn.Goals as goal

pub returns-in-Stop-clause-runs : goal.returns-in-Stop-clause-runs
returns-in-Stop-clause-runs g c =
    stopped_drawn (g.R.Rules.protocol (c.args.caller.now.id.slots - 1)) c.args.pass.now c.args.number c.args.stamp c.args.actions c.requires.drawn

pub drive_on-driven-requires-clause-driver : goal.drive_on-driven-requires-clause-driver
drive_on-driven-requires-clause-driver g c =
    begins_driver (g.R.Rules.protocol (c.args.caller.now.id.slots - 1)) c.args.pass.now c.args.number c.args.stamp c.args.actions c.begun-driver.result
    c.requires.drawn c.begun-driver.ensures

pub returns-then-not-is_over-clause-runs : goal.returns-then-not-is_over-clause-runs
returns-then-not-is_over-clause-runs g c =
    let n = c.args.caller.now.id.slots - 1 in
    let run = c.drive_on-driven in
    runs_undone (g.R.Rules.protocol n) c.args.pass.now c.args.number c.args.stamp c.args.actions c.begun-driver.result c.requires.drawn
    c.begun-driver.ensures (g.met.R.Rules.lawful n) run.new.pass run.result run.ensures.ends c.facts.ensures.legal
    (sym c.is_over.ensures ∙ c.if-not-is_over.true)

pub forget-requires-clause-done : goal.forget-requires-clause-done
forget-requires-clause-done g c =
    let n = c.args.caller.now.id.slots - 1 in
    let run = c.drive_on-driven in
    over_done (g.R.Rules.protocol n) c.args.pass.now c.args.number c.args.stamp c.args.actions c.begun-driver.result c.requires.drawn c.begun-driver.ensures
    (g.met.R.Rules.lawful n) run.new.pass run.result run.ensures.ends c.facts.ensures.legal (sym c.is_over.ensures ∙ c.if-not-is_over.false)

pub forget-requires-clause-own : goal.forget-requires-clause-own
forget-requires-clause-own g c =
    let n = c.args.caller.now.id.slots - 1 in
    let run = c.drive_on-driven in
    still_own (g.R.Rules.protocol n) c.args.pass.now c.args.number c.args.stamp c.args.actions c.begun-driver.result c.requires.drawn c.begun-driver.ensures
    (g.met.R.Rules.lawful n) run.new.pass run.result run.ensures.ends c.facts.ensures.legal

pub returns-clause-runs : goal.returns-clause-runs
returns-clause-runs g c =
    let n = c.args.caller.now.id.slots - 1 in
    let run = c.drive_on-driven in
    runs_done (g.R.Rules.protocol n) c.args.pass.now c.args.number c.args.stamp c.args.actions c.begun-driver.result c.requires.drawn
    c.begun-driver.ensures (g.met.R.Rules.lawful n) run.new.pass run.result run.ensures.ends c.facts.ensures.legal c.forget.new.pass
    (sym c.is_over.ensures ∙ c.if-not-is_over.false) c.forget.ensures c.facts-2.ensures.legal

pub returns-in-Stop-clause-gate : goal.returns-in-Stop-clause-gate
returns-in-Stop-clause-gate g c =
    stops_here _ _ _ refl (c.pass_point.ensures.cause c.in-Stop.is) c.pass_point.ensures.later

pub returns-then-not-is_over-clause-gate : goal.returns-then-not-is_over-clause-gate
returns-then-not-is_over-clause-gate g c =
    let_pass _ _ _ _ (c.pass_point.ensures.told (λ stop. absurd (let e = sym c.in-Go.is ∙ stop in cc))) c.drive_on-driven.ensures.gate

pub returns-clause-gate : goal.returns-clause-gate
returns-clause-gate g c =
    let_pass _ _ _ _ (c.pass_point.ensures.told (λ stop. absurd (let e = sym c.in-Go.is ∙ stop in cc))) c.drive_on-driven.ensures.gate

pub forget-requires-clause-rests : goal.forget-requires-clause-rests
forget-requires-clause-rests g c =
    still_at_rest c.args.caller.now c.args.pass.now c.drive_on-driven.new.pass c.drive_on-driven.ensures.ends.added.pass c.requires.rests
