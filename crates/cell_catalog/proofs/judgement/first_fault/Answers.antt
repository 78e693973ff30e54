use Rattle.std.proofs.Common.{◌∙◌}
use Rattle.table_schema.specs.Index.{stated_of}
use Rattle.cell_catalog.proofs.Rulings.{fault_found}
use Rattle.cell_catalog.proofs.judgement.first_fault.Goals as goal

pub returns : goal.returns
returns c =
    c.err.ensures.value
    ∙ fault_found (stated_of c.args.schema.now) c.check_schema.result c.check_schema.ensures.valid c.check_schema.ensures.first
