use Rattle.std.proofs.Common.{◌-◌, Some, ◌∷◌, [], subst}
use Rattle.txn_core.specs.declared.message.Message.{Message}
use Rattle.cluster.specs.Events.{event_of}
use Rattle.cluster.specs.Counts.{Counts}
use Rattle.recovery_manager.proofs.Told.{is_list_of_items, items_begun}
use Rattle.recovery_manager.proofs.listing.held_in.Goals as goal

pub unreachable-requires : goal.unreachable-requires
unreachable-requires g c =
    let n = c.args.caller.now.id.slots - 1 in
    is_list_of_items (g.R.Rules.protocol n) (g.met.R.Rules.lawful n) c.args.pass.now c.ask.new.pass (Some c.args.cell) c.args.cell
    c.in_ok-answer.answer c.in_ok-answer.ensures.later c.in_default.not-PendingList

pub returns-clause-ok : goal.returns-clause-ok
returns-clause-ok g c =
    let n = c.args.caller.now.id.slots - 1 in
    let S = g.R.Rules.protocol n in
    let p = c.args.pass.now in
    let q = c.ask.new.pass in
    let items = c.in-PendingList.pendings in
    let is = c.in-PendingList.is in
    record {
      counts = subst (λ a. Counts S p (event_of p (Some c.args.cell) (Message.Pendings c.args.cell) a ∷ []) 0 q) is c.in_ok-answer.ensures.ok;
      begun =
          items_begun S (g.met.R.Rules.lawful n) p q (Some c.args.cell) c.args.cell items c.in_ok-answer.answer is c.in_ok-answer.ensures.later;
    }
