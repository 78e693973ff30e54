use Rattle.std.proofs.Common.{◌∷◌}
use Rattle.expr_words.specs.Machine.{Side}
use Rattle.expr_words.proofs.Steps.{goes_along}
use Rattle.expr_parse.proofs.predicate.predicate.Goals as goal

pub returns-in-Some-clause-goes : goal.returns-in-Some-clause-goes
returns-in-Some-clause-goes c =
    goes_along _ _ _ _ _ (λ os ks. c.in-Some.ensures.sign c.args.levels os (Side c.args.first ∷ ks)) c.compared.ensures.goes
