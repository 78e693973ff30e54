use Rattle.std.proofs.Common.{◌≡◌, ◌-◌, ℕ, Option, None, refl}
use Rattle.txn_core.specs.declared.message.Message.{Message}
use Rattle.txn_core.specs.Legal.{sent_to}
use Rattle.cell_model.specs.Service.{service}
use Rattle.table_history.specs.Entries.{TableMessage}
use Rattle.cell_asks.specs.Answers.{ruled_answer}
use Rattle.table_cells.proofs.Steps.{one_of, told_of, of_command}
use Rattle.table_cells.proofs.asked.command.Goals as goal

pub ruled_of-requires : goal.ruled_of-requires
ruled_of-requires g c =
    let n = c.args.caller.now.id.slots - 1 in
    let p = c.args.pass.now in
    let q = c.ask_all.new.pass in
    let m : TableMessage = Message.Command c.args.command in
    let cell : Option ℕ = None in
    let sent : sent_to (service n) m ≡ cell = refl in
    of_command n p q c.args.command c.in-Ok.answer (one_of n p q cell m c.in-Ok.answer sent c.in-Ok.ensures.later c.in-Ok.ensures.ok)

pub returns-in-Ok-clause-ok : goal.returns-in-Ok-clause-ok
returns-in-Ok-clause-ok g c =
    let n = c.args.caller.now.id.slots - 1 in
    let p = c.args.pass.now in
    let q = c.ask_all.new.pass in
    let m : TableMessage = Message.Command c.args.command in
    let cell : Option ℕ = None in
    let sent : sent_to (service n) m ≡ cell = refl in
    told_of n p q cell m c.in-Ok.answer (ruled_answer c.ruled_of.result) c.ruled_of.ensures sent c.in-Ok.ensures.later c.in-Ok.ensures.ok
