use Rattle.std.proofs.Common.{rules}
use Rattle.table_schema.proofs.Elements.{named_iff}
use Rattle.table_schema.proofs.keys.KeyNames.names.Goals as goal

pub returns-then-eq-clause-names : goal.returns-then-eq-clause-names
returns-then-eq-clause-names c = named_iff _ c.args.self.now c.args.name.now (search rules)

pub returns-in-Some-clause-names : goal.returns-in-Some-clause-names
returns-in-Some-clause-names c = named_iff _ c.args.self.now c.args.name.now (search rules)

pub returns-in-None-clause-names : goal.returns-in-None-clause-names
returns-in-None-clause-names c = named_iff _ c.args.self.now c.args.name.now (search rules)
