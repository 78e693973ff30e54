use Rattle.std.proofs.Common.{rules, ◌≡◌, true, is_some, refl, subst}
use Rattle.txn_core.specs.declared.message.Message.{Message}
use Rattle.cell_model.specs.declared.question.CatalogQuestion.TheVariants.{Look}
use Rattle.cell_asks.specs.Steps.{One}
use Rattle.cell_asks.specs.Answers.{look_answer}
use Rattle.cell_asks.proofs.Trails.{none_asked, not_answered, not_told, told_one, told_stops, no_memory, same_error, looked}
use Rattle.transact_calls.specs.Known.{known_of}
use Rattle.transact_calls.proofs.Looking.{look_named, looked_up, looks_known}
use Rattle.transact_calls.proofs.looked.look_up.Goals as goal

pub returns-then-contains_key-clause-ok : goal.returns-then-contains_key-clause-ok
returns-then-contains_key-clause-ok g c = λ p names rest on.
    let there : is_some (known_of c.args.tables.now.entries c.args.name.now) ≡ true = search rules in
    looks_known (g.C.Asks.count c.args.cells.now) p names rest c.args.name.now c.args.tables.now.entries (g.C.Asks.seen c.args.pass.now) on there

pub returns-in_err-asked-clause-err : goal.returns-in_err-asked-clause-err
returns-in_err-asked-clause-err g c =
    no_memory c.from_residual.result _ c.from_residual.ensures.1 (none_asked (g.C.Asks.count c.args.cells.now) (g.C.Asks.seen c.args.pass.now))

pub returns-in_err-told-clause-err : goal.returns-in_err-told-clause-err
returns-in_err-told-clause-err g c =
    let why = c.in_err-told.field-0.0 in
    same_error c.from_residual-in_err-told.result _ why c.from_residual-in_err-told.ensures.1
    (not_answered (g.C.Asks.count c.args.cells.now) (g.C.Asks.seen c.args.pass.now) why _ c.in_err-told.ensures.err)

pub returns-in_err-told-clause-told : goal.returns-in_err-told-clause-told
returns-in_err-told-clause-told g c =
    told_stops (g.C.Asks.count c.args.cells.now) (g.C.Asks.seen c.args.pass.now) c.in_err-told.field-0.0 _ c.in_err-told.ensures.err c.args.looks.now c.requires.told

pub returns-in_err-note-clause-err : goal.returns-in_err-note-clause-err
returns-in_err-note-clause-err g c =
    no_memory c.from_residual-in_err-note.result _ c.from_residual-in_err-note.ensures.1
    (not_told (g.C.Asks.count c.args.cells.now) (g.C.Asks.seen c.args.pass.now) _ _ _ c.in_ok-told.ensures.ok refl)

pub returns-in_err-note-clause-told : goal.returns-in_err-note-clause-told
returns-in_err-note-clause-told g c =
    let n = g.C.Asks.count c.args.cells.now in
    let p = g.C.Asks.seen c.args.pass.now in
    let q = g.C.Asks.seen c.look.new.pass in
    let name = c.args.name.now in
    let one = look_named n p c.in_ok-asked.asked name c.in_ok-asked.ensures c.in_ok-told.told q c.in_ok-told.ensures.ok in
    c.note.ensures.told _ (told_one n p _ _ q one c.args.looks.now c.requires.told)
    (λ look is. looked n p name look q (subst (λ o. One n p (Message.Ask (Look name)) (look_answer o) q) is one))

pub returns-clause-ok : goal.returns-clause-ok
returns-clause-ok g c = λ p names rest on.
    let n = g.C.Asks.count c.args.cells.now in
    let mid = g.C.Asks.seen c.args.pass.now in
    let q = g.C.Asks.seen c.look.new.pass in
    let name = c.args.name.now in
    let one = look_named n mid c.in_ok-asked.asked name c.in_ok-asked.ensures c.in_ok-told.told q c.in_ok-told.ensures.ok in
    looked_up n p names rest name c.args.tables.now.entries mid on q c.in_ok-told.told one c.note.new.tables.entries c.in_ok-note.field-0 c.in_ok-note.ensures.notes

pub returns-clause-told : goal.returns-clause-told
returns-clause-told g c =
    let n = g.C.Asks.count c.args.cells.now in
    let p = g.C.Asks.seen c.args.pass.now in
    let q = g.C.Asks.seen c.look.new.pass in
    let name = c.args.name.now in
    let one = look_named n p c.in_ok-asked.asked name c.in_ok-asked.ensures c.in_ok-told.told q c.in_ok-told.ensures.ok in
    c.note.ensures.told _ (told_one n p _ _ q one c.args.looks.now c.requires.told)
    (λ look is. looked n p name look q (subst (λ o. One n p (Message.Ask (Look name)) (look_answer o) q) is one))
