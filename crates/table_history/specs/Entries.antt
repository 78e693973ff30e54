-- The entries of histories of real tables.
use Rattle.attr_value.specs.Tree.{Attributes}
use Rattle.update_eval.specs.declared.fault.EvalFault.{EvalFault}
use Rattle.txn_core.specs.declared.message.Message.{Message}
use Rattle.txn_core.specs.declared.answer.Answer.{Answer}
use Rattle.txn_core.specs.declared.entry.Entry.{Entry}
use Rattle.cell_model.specs.declared.key.CellKey.{CellKey}
use Rattle.cell_model.specs.declared.command.CatalogCommand.{CatalogCommand}
use Rattle.cell_model.specs.declared.question.CatalogQuestion.{CatalogQuestion}
use Rattle.cell_model.specs.declared.answer.CatalogAnswer.{CatalogAnswer}
use Rattle.cell_model.specs.Actions.{ItemAction}

abbrev pub TableMessage : Type 0
TableMessage = Message CellKey Attributes ItemAction EvalFault CatalogCommand CatalogQuestion

abbrev pub TableAnswer : Type 0
TableAnswer = Answer CellKey Attributes ItemAction EvalFault CatalogAnswer

abbrev pub TableEvent : Type 0
TableEvent = Entry CellKey Attributes ItemAction EvalFault CatalogCommand CatalogQuestion CatalogAnswer
