use Rattle.std.proofs.Common.{rules, ◌≡◌, ◌-◌, ℕ, Option, Some}
use Rattle.txn_core.specs.declared.message.Message.{Message}
use Rattle.txn_core.specs.Legal.{sent_to}
use Rattle.cell_model.specs.declared.question.CatalogQuestion.TheVariants.{Page}
use Rattle.cell_model.specs.Service.{service}
use Rattle.table_history.specs.Entries.{TableMessage}
use Rattle.cell_asks.specs.Answers.{page_answer}
use Rattle.table_cells.proofs.Steps.{one_of, told_of, of_page}
use Rattle.table_cells.proofs.asked.page.Goals as goal

pub part_of-requires : goal.part_of-requires
part_of-requires g c =
    let n = c.args.caller.now.id.slots - 1 in
    let p = c.args.pass.now in
    let q = c.ask.new.pass in
    let m : TableMessage = Message.ScanPage (Page c.args.question) in
    let cell : Option ℕ = Some c.page_cell-cell.result in
    let sent : sent_to (service n) m ≡ cell = search rules in
    of_page n p q c.args.question c.in-Ok.answer (one_of n p q cell m c.in-Ok.answer sent c.in-Ok.ensures.later c.in-Ok.ensures.ok)

pub returns-in-Ok-clause-ok : goal.returns-in-Ok-clause-ok
returns-in-Ok-clause-ok g c =
    let n = c.args.caller.now.id.slots - 1 in
    let p = c.args.pass.now in
    let q = c.ask.new.pass in
    let m : TableMessage = Message.ScanPage (Page c.args.question) in
    let cell : Option ℕ = Some c.page_cell-cell.result in
    let sent : sent_to (service n) m ≡ cell = search rules in
    told_of n p q cell m c.in-Ok.answer (page_answer c.part_of.result) c.part_of.ensures sent c.in-Ok.ensures.later c.in-Ok.ensures.ok
