use Rattle.std.proofs.Common.{◌≡◌, ◌-◌, ◌++◌, true, Some, refl, reverse, sym, ap, ◌∙◌, subst}
use Rattle.std.specs.Option.{option_to_list}
use Rattle.txn_core.specs.Legal.{Allowed, sent_to}
use Rattle.partition.specs.Steps.{is_served}
use Rattle.coordinator.proofs.Finishing.{last_sent, last_served, popped_none, pops_one, settle_allowed, settled_less, settled_on, some_left}
use Rattle.coordinator.proofs.ending.settle.Goals as goal

pub unreachable-requires : goal.unreachable-requires
unreachable-requires g c =
    let S = g.R.Rules.protocol (c.args.caller.now.id.slots - 1) in
    pops_one c.args.driver.now.actions.items c.pop_front.new.self.items (popped_none c.pop_front.result _ _ c.in_default.not-Some c.pop_front.ensures.items)
    c.pop_front.ensures.rest
    (some_left S (reverse c.args.pass.now.front) c.args.driver.now c.requires.next.0 c.requires.driver c.requires.next.1)

pub ask-requires-clause-served : goal.ask-requires-clause-served
ask-requires-clause-served g c =
    let n = c.args.caller.now.id.slots - 1 in
    let d = c.args.driver.now in
    subst (λ m. is_served n m ≡ true) (sym c.last_message-message.ensures)
    (last_served (g.R.Rules.protocol n) n d.fate d.number c.into_key-key.result)

pub ask-requires-clause-sent : goal.ask-requires-clause-sent
ask-requires-clause-sent g c =
    let S = g.R.Rules.protocol (c.args.caller.now.id.slots - 1) in
    let d = c.args.driver.now in
    subst (λ m. sent_to S m ≡ Some c.cell_of-cell.result) (sym c.last_message-message.ensures)
    (last_sent S d.fate d.number c.into_key-key.result ∙ ap Some (sym c.cell_of-cell.ensures.cell))

pub ask-requires-clause-may : goal.ask-requires-clause-may
ask-requires-clause-may g c =
    let S = g.R.Rules.protocol (c.args.caller.now.id.slots - 1) in
    let p = c.args.pass.now in
    subst (λ m. Allowed S (reverse p.front) p.number m) (sym c.last_message-message.ensures)
    (settle_allowed S (reverse p.front) c.args.driver.now c.requires.next.0 c.requires.driver c.requires.next.1 p.number c.into_key-key.result)

pub returns-clause-ok : goal.returns-clause-ok
returns-clause-ok g c =
    let n = c.args.caller.now.id.slots - 1 in
    let d = c.args.driver.now in
    settled_on (g.R.Rules.protocol n) (g.met.R.Rules.lawful n) c.args.pass.now c.ask.new.pass (Some c.cell_of-cell.result)
    c.requires.next.0 c.in-Some.action c.into_key-key.result c.last_message-message.result c.in_ok-answer.answer d
    (record d { course = c.took_done.new.self; actions = c.pop_front.new.self }) c.requires.driver c.requires.next.1
    (c.pop_front.ensures.items ∙ ap (λ o. option_to_list o ++ c.pop_front.new.self.items) c.in-Some.is)
    (c.into_key-key.ensures n) c.last_message-message.ensures c.in_ok-answer.ensures.later c.took_done.ensures refl c.in_ok-answer.ensures.ok

pub returns-clause-less : goal.returns-clause-less
returns-clause-less g c =
    settled_less (g.R.Rules.protocol (c.args.caller.now.id.slots - 1)) (reverse c.args.pass.now.front) c.args.driver.now c.took_done.new.self
    c.requires.next.0 c.requires.driver c.requires.next.1 c.took_done.ensures
