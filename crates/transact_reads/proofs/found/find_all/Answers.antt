use Rattle.std.proofs.Common.{◌≡◌, ◌∙◌, ◌+◌, ◌∷◌, Result, drop, sym, ap, subst}
use Rattle.std.proofs.lemmas.List.{at_drop_more}
use Rattle.table_model.specs.declared.refusal.Refusal.{Refusal}
use Rattle.transact_reads.specs.declared.found.FoundRead.{FoundRead}
use Rattle.transact_reads.specs.Found.{database_of, IsFound}
use Rattle.transact_reads.proofs.Reading.{one_refused}
use Rattle.transact_reads.proofs.found.find_all.Goals as goal

pub returns-in-Err : goal.returns-in-Err
returns-in-Err c =
    let db = database_of c.args.tables.now.entries in
    let reads = c.args.reads.now in
    let i = c.loop-read.read-index in
    let read = c.read-item.result in
    let next : drop i reads ≡ read ∷ drop (i + 1) reads =
    at_drop_more (λ xs. xs) reads i read c.loop-read-test.true ∙ ap (λ x. x ∷ drop (i + 1) reads) (sym c.read-item.is) in
    one_refused db reads (drop i reads) (drop (i + 1) reads) c.loop-read.all read c.in-Err.refusal c.loop-read.invariant next
    (subst (λ (r : Result FoundRead Refusal). IsFound db read r) c.in-Err.is c.in_ok-found.ensures)
