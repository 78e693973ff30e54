use Rattle.std.proofs.Common.{List, Result, subst}
use Rattle.table_model.specs.declared.refusal.Refusal.{Refusal}
use Rattle.cell_model.specs.declared.key.CellKey.{CellKey}
use Rattle.transact_calls.specs.Targets.{AreKeysBy}
use Rattle.transact_calls.proofs.Targets.{items_by}
use Rattle.transact_calls.proofs.items.find_kept.Goals as goal

pub returns-in-Ok : goal.returns-in-Ok
returns-in-Ok c = λ es told.
    let entries = c.in_ok-tables.tables.entries in
    items_by es entries (c.in_ok-tables.ensures es told) c.args.reads.now c.in-Ok.keys
    (subst (λ (r : Result (List CellKey) Refusal). AreKeysBy entries c.args.reads.now r) c.in-Ok.is c.in_ok-keys.ensures)
