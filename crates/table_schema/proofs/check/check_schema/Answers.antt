use Rattle.std.proofs.Common.{rules}
use Rattle.table_schema.specs.declared.fault.SchemaFault.TheVariants.{BadName, BadKeySchema, BadDefinition, DefinitionMismatch, BadIndexName, BadIndexKey, BadProjection, TooManyIndexes}
use Rattle.table_schema.proofs.Faults.{refused}
use Rattle.table_schema.proofs.check.check_schema.Goals as goal

pub returns-then-not-is_table_name-clause-valid : goal.returns-then-not-is_table_name-clause-valid
returns-then-not-is_table_name-clause-valid c = refused c.args.schema.now BadName (search rules)

pub returns-then-not-are_apart-clause-valid : goal.returns-then-not-are_apart-clause-valid
returns-then-not-are_apart-clause-valid c = refused c.args.schema.now BadKeySchema (search rules)

pub returns-then-not-has_valid_definitions-clause-valid : goal.returns-then-not-has_valid_definitions-clause-valid
returns-then-not-has_valid_definitions-clause-valid c = refused c.args.schema.now BadDefinition (search rules)

pub returns-then-not-defines_its_keys-clause-valid : goal.returns-then-not-defines_its_keys-clause-valid
returns-then-not-defines_its_keys-clause-valid c = refused c.args.schema.now DefinitionMismatch (search rules)

pub returns-then-not-has_valid_index_names-clause-valid : goal.returns-then-not-has_valid_index_names-clause-valid
returns-then-not-has_valid_index_names-clause-valid c = refused c.args.schema.now BadIndexName (search rules)

pub returns-then-not-has_valid_index_keys-clause-valid : goal.returns-then-not-has_valid_index_keys-clause-valid
returns-then-not-has_valid_index_keys-clause-valid c = refused c.args.schema.now BadIndexKey (search rules)

pub returns-then-not-have_valid_projections-clause-valid : goal.returns-then-not-have_valid_projections-clause-valid
returns-then-not-have_valid_projections-clause-valid c = refused c.args.schema.now BadProjection (search rules)

pub returns-then-not-has_few_indexes-clause-valid : goal.returns-then-not-has_few_indexes-clause-valid
returns-then-not-has_few_indexes-clause-valid c = refused c.args.schema.now TooManyIndexes (search rules)
