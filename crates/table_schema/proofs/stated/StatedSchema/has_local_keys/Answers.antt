use Rattle.std.proofs.Common.{rules, tests}
use Rattle.std.proofs.lemmas.Iterator.{cases_from_all, YieldsList-from_slice}
use Rattle.table_schema.specs.Key.{IsLocalTo}
use Rattle.table_schema.proofs.Chains.{iff_all}
use Rattle.table_schema.proofs.stated.StatedSchema.has_local_keys.Goals as goal

pub returns : goal.returns
returns c =
    iff_all (λ i. IsLocalTo c.args.self.now.keys i.keys) _ _
    (cases_from_all _ _ _ (λ i. IsLocalTo c.args.self.now.keys i.keys) (λ i. ¬ (IsLocalTo c.args.self.now.keys i.keys)) c.all.ensures.ran
    (YieldsList-from_slice c.args.self.now.locals cc) (λ x q k. search (rules, tests)) (λ x q k. search (rules, tests)))
