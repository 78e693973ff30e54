-- The fault of a schema that a refusal tells of.
use Rattle.std.specs.Prelude.{Option, None, Some}
use Rattle.table_schema.specs.declared.fault.SchemaFault.{SchemaFault}
use Rattle.table_model.specs.declared.refusal.Refusal.{Refusal}
use Rattle.table_model.specs.declared.refusal.Refusal.TheVariants as refusal
use Rattle.table_model.specs.declared.refusal.Invalid.{Invalid}
use Rattle.table_model.specs.declared.refusal.Invalid.TheVariants as invalid

abbrev pub fault_in : Invalid → Option SchemaFault
fault_in (invalid.Schema fault) = Some fault
fault_in _ = None

abbrev pub schema_fault : Refusal → Option SchemaFault
schema_fault (refusal.Invalid why) = fault_in why
schema_fault _ = None
