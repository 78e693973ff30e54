use Rattle.table_schema.specs.Key.{IsKeySchema}
use Rattle.table_schema.specs.declared.fault.SchemaFault.TheVariants.{BadKeySchema, BadIndexKey}
use Rattle.table_schema.proofs.Chains.{all_left, all_right}
use Rattle.table_schema.proofs.stated.StatedSchema.converted.Goals as goal

pub local_indexes-requires : goal.local_indexes-requires
local_indexes-requires c =
    all_left (λ i. IsKeySchema i.keys) c.args.self.locals c.args.self.globals (c.requires BadIndexKey).keys

pub global_indexes-requires : goal.global_indexes-requires
global_indexes-requires c =
    all_right (λ i. IsKeySchema i.keys) c.args.self.locals c.args.self.globals (c.requires BadIndexKey).keys

pub key_names-requires : goal.key_names-requires
key_names-requires c = c.requires BadKeySchema
