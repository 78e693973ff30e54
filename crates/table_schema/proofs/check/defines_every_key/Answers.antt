use Rattle.table_schema.specs.Index.{stated_of}
use Rattle.table_schema.proofs.Rules.{all_keys, table_keys, index_keys}
use Rattle.table_schema.proofs.check.defines_every_key.Goals as goal

pub returns-then-defines_parts : goal.returns-then-defines_parts
returns-then-defines_parts c = (
  λ yes.
      all_keys (stated_of c.args.schema.now) (c.defines_parts.ensures.0 c.if-defines_parts.true) (c.defines_index_keys.ensures.0 yes),
  λ every. c.defines_index_keys.ensures.1 (index_keys (stated_of c.args.schema.now) every),
)

pub returns-else-defines_parts : goal.returns-else-defines_parts
returns-else-defines_parts c = (
  λ e. absurd (cc),
  λ every. c.defines_parts.ensures.1 (table_keys (stated_of c.args.schema.now) every),
)
