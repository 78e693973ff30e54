use Rattle.std.proofs.Common.{Result, refl, subst}
use Rattle.table_schema.specs.declared.schema.Schema.{Schema}
use Rattle.table_model.specs.declared.refusal.Refusal.{Refusal}
use Rattle.schema_update.specs.Updated.{IsUpdated}
use Rattle.plain_database.proofs.update_table.change_rows.Goals as goal

pub returns-in-Err-clause-ok : goal.returns-in-Err-clause-ok
returns-in-Err-clause-ok c = (
  subst (λ (r : Result Schema Refusal). IsUpdated c.args.rows.now.schema c.args.update r) c.in-Err.is
      (subst (λ (s : Schema). IsUpdated s c.args.update c.in_ok-schema.field-0) c.schema.ensures c.in_ok-schema.ensures),
  refl,
)
