use Rattle.std.proofs.Common.{◌≡◌, ◌-◌, ℕ, Option, Some, sym, ap}
use Rattle.txn_core.specs.declared.message.Message.{Message}
use Rattle.txn_core.specs.Legal.{sent_to}
use Rattle.cell_model.specs.Service.{service}
use Rattle.table_history.specs.Entries.{TableMessage}
use Rattle.cell_asks.specs.Answers.{got_answer}
use Rattle.table_cells.proofs.Steps.{one_of, told_of, of_get}
use Rattle.table_cells.proofs.asked.get.Goals as goal

pub got_of-requires : goal.got_of-requires
got_of-requires g c =
    let n = c.args.caller.now.id.slots - 1 in
    let p = c.args.pass.now in
    let q = c.ask.new.pass in
    let m : TableMessage = Message.Get c.args.key in
    let cell : Option ℕ = Some c.cell_of-cell.result in
    let sent : sent_to (service n) m ≡ cell = ap Some (sym c.cell_of-cell.ensures.cell) in
    of_get n p q c.args.key c.in-Ok.answer (one_of n p q cell m c.in-Ok.answer sent c.in-Ok.ensures.later c.in-Ok.ensures.ok)

pub returns-in-Ok-clause-ok : goal.returns-in-Ok-clause-ok
returns-in-Ok-clause-ok g c =
    let n = c.args.caller.now.id.slots - 1 in
    let p = c.args.pass.now in
    let q = c.ask.new.pass in
    let m : TableMessage = Message.Get c.args.key in
    let cell : Option ℕ = Some c.cell_of-cell.result in
    let sent : sent_to (service n) m ≡ cell = ap Some (sym c.cell_of-cell.ensures.cell) in
    told_of n p q cell m c.in-Ok.answer (got_answer c.got_of.result) c.got_of.ensures sent c.in-Ok.ensures.later c.in-Ok.ensures.ok
