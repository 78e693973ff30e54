use Rattle.std.proofs.Common.{Err}
use Rattle.std.specs.Prelude.{◌↔◌, IsOk}
use Rattle.table_schema.specs.declared.schema.Schema.{Schema}
use Rattle.table_schema.specs.declared.fault.SchemaFault.{SchemaFault}
use Rattle.table_schema.specs.Index.{stated_of}
use Rattle.table_schema.specs.Rule.{IsFreeOf, IsValid}

-- a schema with a fault is not valid
pub refused : (schema : Schema) (fault : SchemaFault) → ¬ (IsFreeOf fault (stated_of schema)) → IsOk {T = Unit {0}} (Err fault) ↔ IsValid schema
refused schema fault broken = (λ ok. absurd (cc), λ valid. absurd (broken (valid fault)))
