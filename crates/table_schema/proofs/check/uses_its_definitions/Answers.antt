use Rattle.std.proofs.Common.{rules, tests}
use Rattle.std.proofs.lemmas.Iterator.{cases_from_all, YieldsList-from_slice}
use Rattle.table_schema.specs.Index.{stated_of}
use Rattle.table_schema.specs.Rule.{IsKeyAttribute}
use Rattle.table_schema.proofs.Chains.{iff_all}
use Rattle.table_schema.proofs.check.uses_its_definitions.Goals as goal

pub returns : goal.returns
returns c =
    iff_all (λ d. IsKeyAttribute (stated_of c.args.schema.now) d.name) _ _
    (cases_from_all _ _ _ (λ d. IsKeyAttribute (stated_of c.args.schema.now) d.name) (λ d. ¬ (IsKeyAttribute (stated_of c.args.schema.now) d.name)) c.all.ensures.ran
    (YieldsList-from_slice c.args.schema.now.definitions cc) (λ x q k. search (rules, tests)) (λ x q k. search (rules, tests)))
