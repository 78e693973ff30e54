use Rattle.std.proofs.Common.{List, Result, subst}
use Rattle.table_model.specs.declared.refusal.Refusal.{Refusal}
use Rattle.transact_reads.specs.declared.found.ReadAt.{ReadAt}
use Rattle.transact_reads.specs.Found.{database_of}
use Rattle.transact_reads.specs.Checked.{IsChecked}
use Rattle.transact_calls.proofs.Targets.{keys_checked}
use Rattle.transact_calls.proofs.items.keys_by.Goals as goal

pub returns-in_ok-keys_at-in-Ok : goal.returns-in_ok-keys_at-in-Ok
returns-in_ok-keys_at-in-Ok c =
    let db = database_of c.args.tables.now.entries in
    let reads = c.args.reads.now in
    keys_checked db reads c.in-Ok.places c.in_ok-keys_at-in-Ok.field-0
    (subst (λ (r : Result (List ReadAt) Refusal). IsChecked db reads r) c.in-Ok.is c.in_ok-places.ensures) c.in_ok-keys_at-in-Ok.ensures
