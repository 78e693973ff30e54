use Rattle.std.proofs.Common.{◌≡◌, ◌-◌, Some, reverse, sym, ap, ◌∙◌, subst}
use Rattle.std.specs.Option.{option_copied}
use Rattle.txn_core.specs.declared.message.Message.{Message}
use Rattle.txn_core.specs.Legal.{Allowed}
use Rattle.cluster.specs.Events.{event_of}
use Rattle.cluster.specs.Steps.{IsLater}
use Rattle.coordinator.specs.Writes.{IsDrawn}
use Rattle.coordinator.specs.declared.transact_end.TransactEnd.{TransactEnd}
use Rattle.coordinator.proofs.Drawn.{drawn}
use Rattle.coordinator.proofs.Stopping.{not_asked}
use Rattle.coordinator.proofs.Writing.{begin_told, may_begin, unanswered_goes_on}
use Rattle.coordinator.proofs.transaction.begin.Goals as goal

pub ask_ledger-requires-clause-may : goal.ask_ledger-requires-clause-may
ask_ledger-requires-clause-may g c =
    let S = g.R.Rules.protocol (c.args.caller.now.id.slots - 1) in
    let p = c.args.pass.now in
    subst (λ m. Allowed S (reverse p.front) p.number m) (sym c.in-Ok-begin_message.ensures)
    (may_begin S c.args.actions.now c.requires.actions.0 c.requires.actions.1 c.requires.actions.2)

pub follow-requires-clause-told : goal.follow-requires-clause-told
follow-requires-clause-told g c =
    let n = c.args.caller.now.id.slots - 1 in
    let S = g.R.Rules.protocol n in
    let p = c.args.pass.now in
    let q = c.ask_ledger.new.pass in
    let a = c.in-Ok-ask_ledger.answer in
    begin_told S (reverse p.front) (reverse q.front) p (Some n) (option_copied c.args.token) c.args.actions.now a
    (subst (λ m. IsLater S (reverse p.front) (event_of p (Some n) m a) (reverse q.front)) c.in-Ok-begin_message.ensures
    c.in-Ok-ask_ledger.ensures.later)

pub follow-requires-clause-drawn : goal.follow-requires-clause-drawn
follow-requires-clause-drawn g c = λ number stamp is.
    let n = c.args.caller.now.id.slots - 1 in
    let S = g.R.Rules.protocol n in
    let p = c.args.pass.now in
    let q = c.ask_ledger.new.pass in
    let token = option_copied c.args.token in
    let step =
    subst (λ m. IsLater S (reverse p.front) (event_of p (Some n) m c.in-Ok-ask_ledger.answer) (reverse q.front)) c.in-Ok-begin_message.ensures
    c.in-Ok-ask_ledger.ensures.later in
    subst (λ xs. IsDrawn S q number stamp xs) (sym c.in-Ok.ensures)
    (drawn S (g.met.R.Rules.lawful n) p q (Some n) token c.args.actions.now number stamp (ap (λ z. z.number) c.in-Ok-ask_ledger.ensures.ok.pass)
    (subst (λ y. IsLater S (reverse p.front) (event_of p (Some n) (Message.Begin token c.args.actions.now) y) (reverse q.front)) is step))

pub returns-in-Ok-ask_ledger-clause-gate : goal.returns-in-Ok-ask_ledger-clause-gate
returns-in-Ok-ask_ledger-clause-gate g c =
    c.follow.ensures.gate

pub returns-in-Err-clause-gate : goal.returns-in-Err-clause-gate
returns-in-Err-clause-gate g c =
    not_asked _ _ (λ e. let same : c.unanswered.result ≡ TransactEnd.Stopped = cc in unanswered_goes_on c.in-Err.error (sym c.unanswered.ensures ∙ same))
