use Rattle.std.proofs.Common.{◌-◌, Some, ◌∷◌, [], sym, subst}
use Rattle.txn_core.specs.declared.message.Message.{Message}
use Rattle.txn_core.specs.declared.answer.Answer.{Answer}
use Rattle.cluster.specs.Events.{event_of}
use Rattle.cluster.specs.Counts.{Counts}
use Rattle.recovery_manager.proofs.Told.{is_list_of_numbers, numbers_begun}
use Rattle.recovery_manager.proofs.listing.unfinished_numbers.Goals as goal

pub unreachable-requires : goal.unreachable-requires
unreachable-requires g c =
    let n = c.args.caller.now.id.slots - 1 in
    is_list_of_numbers (g.R.Rules.protocol n) c.args.pass.now c.ask_ledger.new.pass (Some n) c.in_ok-answer.answer c.in_ok-answer.ensures.later
    c.in_default.not-Numbers

pub returns-clause-ok : goal.returns-clause-ok
returns-clause-ok g c =
    let n = c.args.caller.now.id.slots - 1 in
    let S = g.R.Rules.protocol n in
    let p = c.args.pass.now in
    let q = c.ask_ledger.new.pass in
    let numbers = c.in-Numbers.numbers in
    let is = c.in-Numbers.is in
    record {
      counts =
          subst (λ k. Counts S p (event_of p (Some k) Message.Unfinished (Answer.Numbers numbers) ∷ []) 0 q) (sym (g.met.R.Rules.numbered n))
          (subst (λ z. Counts S p (event_of p (Some n) Message.Unfinished z ∷ []) 0 q) is c.in_ok-answer.ensures.ok);
      begun = numbers_begun S p q (Some n) numbers c.in_ok-answer.answer is c.in_ok-answer.ensures.later;
    }
