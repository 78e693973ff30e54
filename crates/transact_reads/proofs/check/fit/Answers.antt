use Rattle.std.proofs.Common.{◌≡◌, ◌∙◌, List, None, true, false, Result, map, sym, ap, subst}
use Rattle.table_model.specs.declared.refusal.Refusal.{Refusal}
use Rattle.table_model.specs.Database.{first}
use Rattle.table_model.specs.Batches.{missing}
use Rattle.table_model.specs.Transactions.{has_repeat}
use Rattle.transact_reads.specs.declared.found.FoundRead.{FoundRead}
use Rattle.transact_reads.specs.Found.{database_of, target_of, AreFound}
use Rattle.transact_reads.proofs.Reading.{fit_bad, fit_twice, fit_all}
use Rattle.transact_reads.proofs.check.fit.Goals as goal

pub returns-then-branch : goal.returns-then-branch
returns-then-branch c =
    let db = database_of c.args.tables.now.entries in
    let reads = c.args.reads.now in
    let there : first (map (λ read. missing db read.table) reads) ≡ None = sym c.in_ok-refusal.ensures ∙ c.in_default.is in
    let are = subst (λ (r : Result (List FoundRead) Refusal). AreFound db reads r) c.in-Ok.is c.in_ok-found.ensures in
    let twice : has_repeat (map target_of c.in-Ok.found) ≡ true =
    sym (c.in_ok-has_repeat-in-Ok.ensures ∙ ap (λ (xs : List FoundRead). has_repeat (map target_of xs)) c.as_slice.ensures) ∙ c.if-branch.true in
    fit_twice db reads there c.in-Ok.found are twice

pub returns-else-branch : goal.returns-else-branch
returns-else-branch c =
    let db = database_of c.args.tables.now.entries in
    let reads = c.args.reads.now in
    let there : first (map (λ read. missing db read.table) reads) ≡ None = sym c.in_ok-refusal.ensures ∙ c.in_default.is in
    let are = subst (λ (r : Result (List FoundRead) Refusal). AreFound db reads r) c.in-Ok.is c.in_ok-found.ensures in
    let apart : has_repeat (map target_of c.in-Ok.found) ≡ false =
    sym (c.in_ok-has_repeat-in-Ok.ensures ∙ ap (λ (xs : List FoundRead). has_repeat (map target_of xs)) c.as_slice.ensures) ∙ c.if-branch.false in
    fit_all db reads there c.in-Ok.found are apart

pub returns-in-Err : goal.returns-in-Err
returns-in-Err c =
    let db = database_of c.args.tables.now.entries in
    let reads = c.args.reads.now in
    let there : first (map (λ read. missing db read.table) reads) ≡ None = sym c.in_ok-refusal.ensures ∙ c.in_default.is in
    fit_bad db reads there c.in-Err.refusal (subst (λ (r : Result (List FoundRead) Refusal). AreFound db reads r) c.in-Err.is c.in_ok-found.ensures)
