use Rattle.expr_parse.specs.Reading.{ReadsUpdate}
use Rattle.expr_parse.specs.Update.{update_tree}
use Rattle.expr_parse.proofs.Answering.{answered_sentence}
use Rattle.expr_parse.proofs.update_expression.update.Goals as goal

pub returns-clause-sentence : goal.returns-clause-sentence
returns-clause-sentence c =
    answered_sentence update_tree (ReadsUpdate c.args.given.now c.args.text.now) (c.one_reading.ensures.update c.args.given.now c.args.text.now)
    c.read_update.result c.read_update.ensures.answer
