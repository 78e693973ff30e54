use Rattle.std.proofs.Common.{◌∙◌, sym, subst, rules}
use Rattle.table_request.specs.declared.tables.TableUpdate.{TableUpdate}
use Rattle.schema_update.specs.Updated.{IsUpdated}
use Rattle.cell_catalog.proofs.Rulings.{is_carried, is_refused}
use Rattle.cell_catalog.proofs.judgement.typed_ruling.Goals as goal

pub returns-in-Ok : goal.returns-in-Ok
returns-in-Ok c =
    is_carried c.args.update.now c.args.table.now c.in_ok-schema.field-0 (search rules)
    (subst (λ (u : TableUpdate). IsUpdated c.args.table.now.schema u c.in_ok-schema.field-0) c.in_ok-copy_of_update.ensures c.in_ok-schema.ensures)
    c.in-Ok.schema c.in-Ok.is

pub returns-in-Some-schema_fault : goal.returns-in-Some-schema_fault
returns-in-Some-schema_fault c =
    is_refused c.args.update.now c.args.table.now c.in_ok-schema.field-0 (search rules)
    (subst (λ (u : TableUpdate). IsUpdated c.args.table.now.schema u c.in_ok-schema.field-0) c.in_ok-copy_of_update.ensures c.in_ok-schema.ensures)
    c.in-Err.refusal c.in-Some-schema_fault.fault c.in-Err.is (sym c.schema_fault.ensures ∙ c.in-Some-schema_fault.is)
