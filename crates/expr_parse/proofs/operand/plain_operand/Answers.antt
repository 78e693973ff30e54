use Rattle.expr_words.specs.Words.{meanings}
use Rattle.expr_words.proofs.Steps.{goes_along, operand_path}
use Rattle.expr_parse.proofs.operand.plain_operand.Goals as goal

pub returns-in-None-clause-goes : goal.returns-in-None-clause-goes
returns-in-None-clause-goes c =
    goes_along _ _ _ _ _ (λ os ks. operand_path (meanings c.args.words.now) 0 os ks c.requires c.in-None.ensures.value) c.path_operand.ensures.goes
