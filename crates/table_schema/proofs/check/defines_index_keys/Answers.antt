use Rattle.std.proofs.Common.{rules, tests}
use Rattle.std.proofs.lemmas.Iterator.{cases_from_all}
use Rattle.std.proofs.lemmas.Iterator.Consumers.{YieldsList-from_first}
use Rattle.table_schema.specs.Index.{indexes_of, stated_of}
use Rattle.table_schema.specs.Indexes.{shown, rest_of}
use Rattle.table_schema.specs.Rule.{DefinesParts}
use Rattle.table_schema.proofs.Chains.{iff_all}
use Rattle.table_schema.proofs.check.defines_index_keys.Goals as goal

pub returns : goal.returns
returns c =
    iff_all (λ i. DefinesParts (stated_of c.args.schema.now) i.keys) _ _
    (cases_from_all c.all.new.self _ _ (λ i. DefinesParts (stated_of c.args.schema.now) i.keys) (λ i. ¬ (DefinesParts (stated_of c.args.schema.now) i.keys)) c.all.ensures.ran
    (YieldsList-from_first shown rest_of {s = c.of.result} (indexes_of (stated_of c.args.schema.now)) c.of.ensures) (λ x q k. search (rules, tests)) (λ x q k. search (rules, tests)))
