use Rattle.std.proofs.Common.{◌-◌, inl, Some, reverse, sym, ◌∙◌, subst}
use Rattle.cluster.specs.declared.step.StepError.{StepError}
use Rattle.cluster.proofs.OwnEntries.{counts_none}
use Rattle.coordinator.specs.Driving.{Fails}
use Rattle.cluster.proofs.Handed.{handed_on}
use Rattle.coordinator.proofs.Driven.{given_up_early}
use Rattle.coordinator.proofs.Knowing.{may_prepare_next, noted_less, prepared_in_vain, prepared_on, preparing, told_verdict}
use Rattle.coordinator.proofs.preparation.ask_acceptance.Goals as goal

pub ask-requires-clause-may : goal.ask-requires-clause-may
ask-requires-clause-may g c =
    let n = c.args.caller.now.id.slots - 1 in
    may_prepare_next (g.R.Rules.protocol n) (g.met.R.Rules.lawful n) (reverse c.args.pass.now.front) c.args.driver.now c.args.pass.now.number
    c.args.place c.in_ok-action.action c.facts.ensures.legal c.requires.driver c.requires.next c.in_ok-action.ensures

pub note-requires : goal.note-requires
note-requires g c =
    let n = c.args.caller.now.id.slots - 1 in
    told_verdict (g.R.Rules.protocol n) (reverse c.args.pass.now.front) (reverse c.ask.new.pass.front) c.args.pass.now
    (Some c.cell_of-cell.result) c.args.driver.now.number c.args.driver.now.stamp c.in_ok-action.action c.in_ok-answer.answer
    c.in_ok-answer.ensures.later

pub returns-clause-ok : goal.returns-clause-ok
returns-clause-ok g c =
    let n = c.args.caller.now.id.slots - 1 in
    prepared_on (g.R.Rules.protocol n) (g.met.R.Rules.lawful n) c.args.pass.now c.ask.new.pass (Some c.cell_of-cell.result) c.args.place
    c.in_ok-action.action c.in_ok-answer.answer c.args.driver.now c.note.new.driver c.make_ready.new.driver c.requires.driver c.requires.next
    c.in_ok-action.ensures c.in_ok-answer.ensures.later c.in_ok-answer.ensures.ok c.in_ok-note.ensures c.in_ok-make_ready.ensures.same
    c.in_ok-make_ready.ensures.ready

pub returns-clause-less : goal.returns-clause-less
returns-clause-less g c =
    noted_less (g.R.Rules.protocol (c.args.caller.now.id.slots - 1)) (reverse c.args.pass.now.front) c.args.place c.in_ok-answer.answer
    c.args.driver.now c.note.new.driver c.make_ready.new.driver c.requires.driver c.requires.next c.in_ok-note.ensures
    c.in_ok-make_ready.ensures.same

pub returns-in_err-action-clause-err : goal.returns-in_err-action-clause-err
returns-in_err-action-clause-err g c =
    let S = g.R.Rules.protocol (c.args.caller.now.id.slots - 1) in
    let p = c.args.pass.now in
    let d = c.args.driver.now in
    let undecided = c.requires.driver.fate ∙ preparing S (reverse p.front) d c.args.place c.requires.driver c.requires.next in
    handed_on c.from_residual.result (λ e. Fails S p d e p) _ c.from_residual.ensures.1
    (λ e same. subst (λ z. Fails S p d z p) (sym same) (given_up_early S p p d StepError.NoMemory undecided (inl (counts_none S p))))

pub returns-in_err-note-clause-err : goal.returns-in_err-note-clause-err
returns-in_err-note-clause-err g c =
    let S = g.R.Rules.protocol (c.args.caller.now.id.slots - 1) in
    let p = c.args.pass.now in
    let q = c.ask.new.pass in
    let d = c.args.driver.now in
    handed_on c.from_residual-in_err-note.result (λ e. Fails S p d e q) _ c.from_residual-in_err-note.ensures.1
    (λ e same. subst (λ z. Fails S p d z q) (sym same)
    (prepared_in_vain S p q (reverse p.front) (Some c.cell_of-cell.result) c.args.place c.in_ok-action.action c.in_ok-answer.answer d c.requires.driver
    c.requires.next c.in_ok-answer.ensures.ok))

pub returns-in_err-make_ready-clause-err : goal.returns-in_err-make_ready-clause-err
returns-in_err-make_ready-clause-err g c =
    let S = g.R.Rules.protocol (c.args.caller.now.id.slots - 1) in
    let p = c.args.pass.now in
    let q = c.ask.new.pass in
    let d = c.args.driver.now in
    handed_on c.from_residual-in_err-make_ready.result (λ e. Fails S p d e q) _ c.from_residual-in_err-make_ready.ensures.1
    (λ e same. subst (λ z. Fails S p d z q) (sym same)
    (prepared_in_vain S p q (reverse p.front) (Some c.cell_of-cell.result) c.args.place c.in_ok-action.action c.in_ok-answer.answer d c.requires.driver
    c.requires.next c.in_ok-answer.ensures.ok))
