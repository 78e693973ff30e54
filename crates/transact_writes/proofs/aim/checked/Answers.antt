use Rattle.std.proofs.Common.{rules, ◌≡◌, List, map, None, sym, ap, ◌∙◌, subst}
use Rattle.std.proofs.lemmas.Result.{IfOk-weaker}
use Rattle.table_request.specs.declared.transactions.TransactAction.{TransactAction}
use Rattle.table_model.specs.Database.{first}
use Rattle.transact_writes.specs.Aimed.{database_of, AreAimed}
use Rattle.transact_writes.proofs.Checks.{missing_in, missing_first, refused_first, checked_by}
use Rattle.transact_writes.proofs.aim.checked.Goals as goal

pub returns-in-Some : goal.returns-in-Some
returns-in-Some c =
    let db = database_of c.args.tables.now.entries in
    missing_first db c.args.actions c.in-Some.refusal
    (sym (c.in_ok-refusal.ensures ∙ ap (λ (xs : List TransactAction). first (map (missing_in db) xs)) c.as_slice.ensures) ∙ c.in-Some.is)

pub returns-in-Ok : goal.returns-in-Ok
returns-in-Ok c =
    let db = database_of c.args.tables.now.entries in
    let absent : c.in_ok-refusal.field-0 ≡ None = search rules in
    let none = sym (c.in_ok-refusal.ensures ∙ ap (λ (xs : List TransactAction). first (map (missing_in db) xs)) c.as_slice.ensures) ∙ absent in
    IfOk-weaker c.fit.result _ _
    (λ result fit. checked_by db c.args.actions c.in-Ok.aimed result none (subst (AreAimed db c.args.actions) c.in-Ok.is c.in_ok-aimed.ensures) fit)
    c.fit.ensures

pub returns-in-Err : goal.returns-in-Err
returns-in-Err c =
    let db = database_of c.args.tables.now.entries in
    let absent : c.in_ok-refusal.field-0 ≡ None = search rules in
    let none = sym (c.in_ok-refusal.ensures ∙ ap (λ (xs : List TransactAction). first (map (missing_in db) xs)) c.as_slice.ensures) ∙ absent in
    refused_first db c.args.actions c.in-Err.refusal none (subst (AreAimed db c.args.actions) c.in-Err.is c.in_ok-aimed.ensures)
