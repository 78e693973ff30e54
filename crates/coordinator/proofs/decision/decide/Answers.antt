use Rattle.std.proofs.Common.{◌-◌, Some, refl, sym, reverse, subst, ◌∷◌, []}
use Rattle.txn_core.specs.declared.message.Message.{Message}
use Rattle.cluster.specs.Events.{event_of}
use Rattle.cluster.specs.Steps.{IsLater}
use Rattle.cluster.specs.Counts.{Counts}
use Rattle.coordinator.specs.Driving.{Fails}
use Rattle.coordinator.proofs.Deciding.{decided_on, fated_first, fated_less, is_answered}
use Rattle.cluster.proofs.Handed.{handed_on}
use Rattle.coordinator.proofs.Driven.{given_up_early}
use Rattle.coordinator.proofs.decision.decide.Goals as goal

pub unreachable-requires : goal.unreachable-requires
unreachable-requires g c =
    is_answered (g.R.Rules.protocol (c.args.caller.now.id.slots - 1)) (reverse c.args.pass.now.front) (reverse c.ask_ledger.new.pass.front)
    c.args.pass.now (Some (c.args.caller.now.id.slots - 1)) c.args.driver.now.number c.args.commit c.args.reasons c.in_ok-answer.answer
    c.in_ok-answer.ensures.later c.in_default.not-Decided

pub returns-clause-ok : goal.returns-clause-ok
returns-clause-ok g c =
    let n = c.args.caller.now.id.slots - 1 in
    let S = g.R.Rules.protocol n in
    let p = c.args.pass.now in
    let q = c.ask_ledger.new.pass in
    let d = c.args.driver.now in
    let m = Message.Decide d.number c.args.commit c.args.reasons in
    decided_on S (g.met.R.Rules.lawful n) p q (Some n) c.args.commit c.args.reasons c.requires.driver.0 c.in-Decided.fate c.in-Decided.first d
    (record d { course = c.took_fate.new.self; fate = c.in-Decided.fate }) c.requires.driver.1 c.requires.undecided
    (subst (λ y. IsLater S (reverse p.front) (event_of p (Some n) m y) (reverse q.front)) c.in-Decided.is c.in_ok-answer.ensures.later)
    c.took_fate.ensures refl (subst (λ y. Counts S p (event_of p (Some n) m y ∷ []) 0 q) c.in-Decided.is c.in_ok-answer.ensures.ok)

pub returns-clause-fate : goal.returns-clause-fate
returns-clause-fate g c = λ first.
    let n = c.args.caller.now.id.slots - 1 in
    let S = g.R.Rules.protocol n in
    let p = c.args.pass.now in
    let q = c.ask_ledger.new.pass in
    let d = c.args.driver.now in
    let m = Message.Decide d.number c.args.commit c.args.reasons in
    (fated_first S (reverse p.front) (reverse q.front) p (Some n) c.args.commit c.args.reasons c.requires.driver.0 c.in-Decided.fate
    c.in-Decided.first d (record d { course = c.took_fate.new.self; fate = c.in-Decided.fate }) c.requires.driver.1 c.requires.undecided
    (subst (λ y. IsLater S (reverse p.front) (event_of p (Some n) m y) (reverse q.front)) c.in-Decided.is c.in_ok-answer.ensures.later)
    c.took_fate.ensures refl first).0

pub returns-clause-reasons : goal.returns-clause-reasons
returns-clause-reasons g c = λ first.
    let n = c.args.caller.now.id.slots - 1 in
    let S = g.R.Rules.protocol n in
    let p = c.args.pass.now in
    let q = c.ask_ledger.new.pass in
    let d = c.args.driver.now in
    let m = Message.Decide d.number c.args.commit c.args.reasons in
    (fated_first S (reverse p.front) (reverse q.front) p (Some n) c.args.commit c.args.reasons c.requires.driver.0 c.in-Decided.fate
    c.in-Decided.first d (record d { course = c.took_fate.new.self; fate = c.in-Decided.fate }) c.requires.driver.1 c.requires.undecided
    (subst (λ y. IsLater S (reverse p.front) (event_of p (Some n) m y) (reverse q.front)) c.in-Decided.is c.in_ok-answer.ensures.later)
    c.took_fate.ensures refl first).1

pub returns-clause-less : goal.returns-clause-less
returns-clause-less g c =
    let n = c.args.caller.now.id.slots - 1 in
    let S = g.R.Rules.protocol n in
    let p = c.args.pass.now in
    let q = c.ask_ledger.new.pass in
    let d = c.args.driver.now in
    let m = Message.Decide d.number c.args.commit c.args.reasons in
    fated_less S (reverse p.front) (reverse q.front) p (Some n) c.args.commit c.args.reasons c.requires.driver.0 c.in-Decided.fate
    c.in-Decided.first d (record d { course = c.took_fate.new.self; fate = c.in-Decided.fate }) c.requires.driver.1 c.requires.undecided
    (subst (λ y. IsLater S (reverse p.front) (event_of p (Some n) m y) (reverse q.front)) c.in-Decided.is c.in_ok-answer.ensures.later)
    c.took_fate.ensures refl

pub returns-in_err-answer-clause-err : goal.returns-in_err-answer-clause-err
returns-in_err-answer-clause-err g c =
    let S = g.R.Rules.protocol (c.args.caller.now.id.slots - 1) in
    let p = c.args.pass.now in
    let q = c.ask_ledger.new.pass in
    let d = c.args.driver.now in
    let v = c.in_err-answer.field-0.0 in
    handed_on c.from_residual.result (λ e. Fails S p d e q) _ c.from_residual.ensures.1
    (λ e same. subst (λ z. Fails S p d z q) (sym same)
    (given_up_early S p q d v c.requires.undecided c.in_err-answer.ensures.err))
