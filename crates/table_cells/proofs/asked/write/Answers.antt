use Rattle.std.proofs.Common.{rules, ◌≡◌, ◌-◌, ℕ, Option, Some}
use Rattle.txn_core.specs.declared.message.Message.{Message}
use Rattle.txn_core.specs.Legal.{sent_to}
use Rattle.cell_model.specs.Service.{service}
use Rattle.table_history.specs.Entries.{TableMessage}
use Rattle.cell_asks.specs.Answers.{wrote_answer}
use Rattle.table_cells.proofs.Steps.{one_of, told_of, of_write}
use Rattle.table_cells.proofs.asked.write.Goals as goal

pub wrote_of-requires : goal.wrote_of-requires
wrote_of-requires g c =
    let n = c.args.caller.now.id.slots - 1 in
    let p = c.args.pass.now in
    let q = c.ask.new.pass in
    let m : TableMessage = Message.Write c.args.action in
    let cell : Option ℕ = Some c.cell_of-cell.result in
    let sent : sent_to (service n) m ≡ cell = search rules in
    of_write n p q c.args.action c.in-Ok.answer (one_of n p q cell m c.in-Ok.answer sent c.in-Ok.ensures.later c.in-Ok.ensures.ok)

pub returns-in-Ok-clause-ok : goal.returns-in-Ok-clause-ok
returns-in-Ok-clause-ok g c =
    let n = c.args.caller.now.id.slots - 1 in
    let p = c.args.pass.now in
    let q = c.ask.new.pass in
    let m : TableMessage = Message.Write c.args.action in
    let cell : Option ℕ = Some c.cell_of-cell.result in
    let sent : sent_to (service n) m ≡ cell = search rules in
    told_of n p q cell m c.in-Ok.answer (wrote_answer c.wrote_of.result) c.wrote_of.ensures sent c.in-Ok.ensures.later c.in-Ok.ensures.ok
