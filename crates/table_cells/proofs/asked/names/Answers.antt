use Rattle.std.proofs.Common.{◌≡◌, ◌-◌, ℕ, Option, Some, refl}
use Rattle.txn_core.specs.declared.message.Message.{Message}
use Rattle.txn_core.specs.Legal.{sent_to}
use Rattle.cell_model.specs.declared.question.CatalogQuestion.TheVariants.{Names}
use Rattle.cell_model.specs.Service.{service}
use Rattle.table_history.specs.Entries.{TableMessage}
use Rattle.cell_asks.specs.Answers.{names_answer}
use Rattle.table_cells.proofs.Steps.{one_of, told_of, of_names}
use Rattle.table_cells.proofs.asked.names.Goals as goal

pub names_of-requires : goal.names_of-requires
names_of-requires g c =
    let n = c.args.caller.now.id.slots - 1 in
    let p = c.args.pass.now in
    let q = c.ask_ledger.new.pass in
    let m : TableMessage = Message.Ask (Names c.args.after c.args.limit) in
    let cell : Option ℕ = Some n in
    let sent : sent_to (service n) m ≡ cell = refl in
    of_names n p q c.args.after c.args.limit c.in-Ok.answer (one_of n p q cell m c.in-Ok.answer sent c.in-Ok.ensures.later c.in-Ok.ensures.ok)

pub returns-in-Ok-clause-ok : goal.returns-in-Ok-clause-ok
returns-in-Ok-clause-ok g c =
    let n = c.args.caller.now.id.slots - 1 in
    let p = c.args.pass.now in
    let q = c.ask_ledger.new.pass in
    let m : TableMessage = Message.Ask (Names c.args.after c.args.limit) in
    let cell : Option ℕ = Some n in
    let sent : sent_to (service n) m ≡ cell = refl in
    told_of n p q cell m c.in-Ok.answer (names_answer c.names_of.result) c.names_of.ensures sent c.in-Ok.ensures.later c.in-Ok.ensures.ok
