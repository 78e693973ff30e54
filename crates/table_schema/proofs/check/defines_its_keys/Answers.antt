use Rattle.table_schema.specs.Index.{stated_of}
use Rattle.table_schema.proofs.Rules.{both_ways, used_from, every_from}
use Rattle.table_schema.proofs.check.defines_its_keys.Goals as goal

pub returns-then-uses_its_definitions : goal.returns-then-uses_its_definitions
returns-then-uses_its_definitions c = (
  λ yes.
      both_ways (stated_of c.args.schema.now) (c.uses_its_definitions.ensures.0 c.if-uses_its_definitions.true) (c.defines_every_key.ensures.0 yes),
  λ both. c.defines_every_key.ensures.1 (every_from (stated_of c.args.schema.now) both),
)

pub returns-else-uses_its_definitions : goal.returns-else-uses_its_definitions
returns-else-uses_its_definitions c = (
  λ e. absurd (cc),
  λ both. c.uses_its_definitions.ensures.1 (used_from (stated_of c.args.schema.now) both),
)
