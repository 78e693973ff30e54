use Rattle.std.proofs.Common.{List, Result, subst}
use Rattle.table_model.specs.declared.refusal.Refusal.{Refusal}
use Rattle.transact_reads.specs.declared.found.FoundRead.{FoundRead}
use Rattle.transact_reads.specs.Found.{database_of}
use Rattle.transact_reads.specs.Checked.{IsFit}
use Rattle.transact_reads.proofs.Reading.{checked_fit}
use Rattle.transact_reads.proofs.check.checked.Goals as goal

pub returns-in_ok-places-in-Ok : goal.returns-in_ok-places-in-Ok
returns-in_ok-places-in-Ok c =
    let db = database_of c.args.tables.now.entries in
    let reads = c.args.reads.now in
    checked_fit db reads c.in-Ok.found c.in_ok-places-in-Ok.field-0
    (subst (λ (r : Result (List FoundRead) Refusal). IsFit db reads r) c.in-Ok.is c.in_ok-found.ensures) c.in_ok-places-in-Ok.ensures
