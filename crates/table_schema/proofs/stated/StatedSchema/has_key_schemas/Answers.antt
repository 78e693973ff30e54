use Rattle.std.proofs.Common.{rules, tests}
use Rattle.std.proofs.lemmas.Iterator.{cases_from_all, YieldsList-from_slice}
use Rattle.std.proofs.lemmas.Iterator.Consumers.{YieldsList-at, YieldsList-from_chain}
use Rattle.table_schema.specs.Key.{IsKeySchema}
use Rattle.table_schema.proofs.Chains.{iff_all}
use Rattle.table_schema.proofs.stated.StatedSchema.has_key_schemas.Goals as goal

pub returns : goal.returns
returns c =
    let locals = YieldsList-at c.chain.ensures.first (YieldsList-from_slice c.args.self.now.locals cc) in
    let globals = YieldsList-at c.chain.ensures.second (YieldsList-from_slice c.args.self.now.globals cc) in
    iff_all (λ i. IsKeySchema i.keys) _ _
    (cases_from_all _ _ _ (λ i. IsKeySchema i.keys) (λ i. ¬ (IsKeySchema i.keys)) c.all.ensures.ran
    (YieldsList-from_chain locals globals c.chain.ensures.first_done c.chain.ensures.second_done) (λ x q k. search (rules, tests)) (λ x q k. search (rules, tests)))
