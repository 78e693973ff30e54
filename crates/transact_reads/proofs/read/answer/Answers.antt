use Rattle.std.proofs.Common.{◌≡◌, Result, List, subst}
use Rattle.std.proofs.lemmas.Result.{IfOk-weaker}
use Rattle.table_model.specs.declared.refusal.Refusal.{Refusal}
use Rattle.transact_reads.specs.declared.found.FoundRead.{FoundRead}
use Rattle.transact_reads.specs.Found.{database_of, item_of}
use Rattle.transact_reads.specs.Checked.{IsFit}
use Rattle.transact_reads.specs.Reads.{IsAnswered}
use Rattle.transact_reads.specs.Told.{all_told}
use Rattle.transact_reads.proofs.Reading.{answered_refused, answered_fit}
use Rattle.transact_reads.proofs.read.answer.Goals as goal

pub returns-in-Ok : goal.returns-in-Ok
returns-in-Ok c =
    let es = c.args.tables.now.entries in
    let reads = c.args.reads.now in
    let fit = subst (λ (r : Result (List FoundRead) Refusal). IsFit (database_of es) reads r) c.in-Ok.is c.in_ok-found.ensures in
    IfOk-weaker c.tell.result _ (IsAnswered es reads c.args.capacity)
    (λ reply said. answered_fit es reads c.args.capacity c.in-Ok.found reply fit
    (subst (λ (found : List FoundRead). reply ≡ all_told (λ (read : FoundRead). read.read.now) item_of c.args.capacity found) c.as_slice.ensures said))
    c.tell.ensures

pub returns-in-Err : goal.returns-in-Err
returns-in-Err c =
    let es = c.args.tables.now.entries in
    let reads = c.args.reads.now in
    answered_refused es reads c.args.capacity c.in-Err.refusal
    (subst (λ (r : Result (List FoundRead) Refusal). IsFit (database_of es) reads r) c.in-Err.is c.in_ok-found.ensures)
