use Rattle.std.proofs.Common.{◌≡◌, sym, ap, subst, ◌∙◌, inl}
use Rattle.table_model.specs.declared.reply.Reply.TheVariants.{Refused}
use Rattle.table_model.specs.declared.refusal.Refusal.TheVariants.{NoTable}
use Rattle.txn_core.specs.declared.message.Message.{Message}
use Rattle.cell_model.specs.declared.question.CatalogQuestion.TheVariants.{Look}
use Rattle.cell_asks.specs.Answers.{look_answer}
use Rattle.cell_asks.specs.Steps.{One}
use Rattle.cell_asks.proofs.Trails.{looked, same_error, told_gives_up, told_one, told_stops}
use Rattle.item_calls.specs.Items.{RefusedByLook}
use Rattle.page_calls.specs.Asked.{page_asked, request_of}
use Rattle.page_calls.specs.Pages.{IsPageTry}
use Rattle.page_calls.specs.Steps.{asked_of}
use Rattle.page_calls.proofs.Refusals.{looked_absent}
use Rattle.page_calls.proofs.Tries.{looked_gives_up, looked_try, told_read, was_told_read}
use Rattle.page_calls.proofs.calls.read_looked.Goals as goal

pub returns-in_err-told-clause-told : goal.returns-in_err-told-clause-told
returns-in_err-told-clause-told g c =
    told_stops (g.C.Asks.count c.args.cells.now) (g.C.Asks.seen c.args.pass.now) c.in_err-told.field-0.0 _ c.in_err-told.ensures.err c.args.looks.now c.requires.told

pub returns-in_err-read-in-Some-clause-err : goal.returns-in_err-read-in-Some-clause-err
returns-in_err-read-in-Some-clause-err g c =
    let n = g.C.Asks.count c.args.cells.now in
    let p = g.C.Asks.seen c.args.pass.now in
    let mid = g.C.Asks.seen c.look.new.pass in
    let asked = asked_of c.args.asked in
    let why = c.in_err-read-in-Some.field-0.0 in
    let name : c.in_ok-try_clone.field-0 ≡ (page_asked asked).table = c.in_ok-try_clone.ensures ∙ ap (λ r. r.table) c.page-2.ensures in
    let one = subst (λ x. One n p (Message.Ask (Look x)) (look_answer c.in_ok-told.told) mid) name c.in_ok-told.ensures.ok in
    same_error c.from_residual-in_err-read-in-Some.result _ why c.from_residual-in_err-read-in-Some.ensures.1
    (looked_gives_up n p asked c.in-Some.look mid (subst (λ o. One n p (Message.Ask (Look (page_asked asked).table)) (look_answer o) mid) c.in-Some.is one) why _
    c.in_err-read-in-Some.ensures.err)

pub returns-in_err-read-in-Some-clause-told : goal.returns-in_err-read-in-Some-clause-told
returns-in_err-read-in-Some-clause-told g c =
    let n = g.C.Asks.count c.args.cells.now in
    let p = g.C.Asks.seen c.args.pass.now in
    told_gives_up n (g.C.Asks.seen c.look.new.pass) c.in_err-read-in-Some.field-0.0 _ c.in_err-read-in-Some.ensures.err c.args.looks.now
    (told_one n p _ _ _ c.in_ok-told.ensures.ok c.args.looks.now c.requires.told)

pub returns-in_ok-read-in-Some-clause-ok : goal.returns-in_ok-read-in-Some-clause-ok
returns-in_ok-read-in-Some-clause-ok g c =
    let n = g.C.Asks.count c.args.cells.now in
    let p = g.C.Asks.seen c.args.pass.now in
    let mid = g.C.Asks.seen c.look.new.pass in
    let q = g.C.Asks.seen c.read_table.new.pass in
    let asked = asked_of c.args.asked in
    let name : c.in_ok-try_clone.field-0 ≡ (page_asked asked).table = c.in_ok-try_clone.ensures ∙ ap (λ r. r.table) c.page-2.ensures in
    let one = subst (λ x. One n p (Message.Ask (Look x)) (look_answer c.in_ok-told.told) mid) name c.in_ok-told.ensures.ok in
    let some = subst (λ o. One n p (Message.Ask (Look (page_asked asked).table)) (look_answer o) mid) c.in-Some.is one in
    subst (λ t. IsPageTry n p asked t q) (sym c.tried.ensures.tried) (looked_try n p asked c.in-Some.look mid some c.in_ok-read-in-Some.read q c.in_ok-read-in-Some.ensures.ok)

pub returns-in_ok-read-in-Some-clause-told : goal.returns-in_ok-read-in-Some-clause-told
returns-in_ok-read-in-Some-clause-told g c =
    let n = g.C.Asks.count c.args.cells.now in
    let p = g.C.Asks.seen c.args.pass.now in
    let mid = g.C.Asks.seen c.look.new.pass in
    let q = g.C.Asks.seen c.read_table.new.pass in
    let asked = asked_of c.args.asked in
    let look = c.in-Some.look in
    let name : c.in_ok-try_clone.field-0 ≡ c.in_ok-name.name =
    c.in_ok-try_clone.ensures ∙ ap (λ r. r.table) (c.page-2.ensures ∙ sym c.page.ensures) ∙ sym c.in_ok-name.ensures in
    let one = subst (λ x. One n p (Message.Ask (Look x)) (look_answer c.in_ok-told.told) mid) name c.in_ok-told.ensures.ok in
    let some = subst (λ o. One n p (Message.Ask (Look c.in_ok-name.name)) (look_answer o) mid) c.in-Some.is one in
    let read = c.in_ok-read-in-Some.read in
    let is = c.in_ok-read-in-Some.ensures.ok in
    c.tried.ensures.told _
    (c.keep.ensures _ (told_read n mid asked look read q is c.args.looks.now (told_one n p _ _ _ c.in_ok-told.ensures.ok c.args.looks.now c.requires.told))
    (was_told_read n mid asked look read q is c.in_ok-name.name look (looked n p c.in_ok-name.name look mid some)))

pub returns-in-None-clause-ok : goal.returns-in-None-clause-ok
returns-in-None-clause-ok g c =
    let n = g.C.Asks.count c.args.cells.now in
    let p = g.C.Asks.seen c.args.pass.now in
    let mid = g.C.Asks.seen c.look.new.pass in
    let asked = asked_of c.args.asked in
    let name : c.in_ok-try_clone.field-0 ≡ (page_asked asked).table = c.in_ok-try_clone.ensures ∙ ap (λ r. r.table) c.page-2.ensures in
    let told : (page_asked asked).table ≡ c.in_ok-name.name = sym (c.in_ok-name.ensures ∙ ap (λ r. r.table) c.page.ensures) in
    let one = subst (λ x. One n p (Message.Ask (Look x)) (look_answer c.in_ok-told.told) mid) name c.in_ok-told.ensures.ok in
    let none = subst (λ o. One n p (Message.Ask (Look (page_asked asked).table)) (look_answer o) mid) c.in-None.is one in
    inl (subst (λ x. RefusedByLook n p (request_of asked) (Refused (NoTable x)) mid) told (looked_absent n p asked mid none))

pub returns-in-None-clause-told : goal.returns-in-None-clause-told
returns-in-None-clause-told g c =
    told_one (g.C.Asks.count c.args.cells.now) (g.C.Asks.seen c.args.pass.now) _ _ _ c.in_ok-told.ensures.ok c.args.looks.now c.requires.told
