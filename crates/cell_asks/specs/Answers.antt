-- The answers that messages have.
use Rattle.std.specs.Prelude.{Option, None, Some}
use Rattle.txn_core.specs.declared.answer.Answer.{Answer}
use Rattle.cell_model.specs.declared.answer.TableLook.{TableLook}
use Rattle.cell_model.specs.declared.answer.NameList.{NameList}
use Rattle.cell_model.specs.declared.answer.Part.{Part}
use Rattle.cell_model.specs.Told.{told_look, told_names, told_part}
use Rattle.table_history.specs.Entries.{TableAnswer}
use Rattle.cell_asks.specs.declared.asks.Got.{Got}
use Rattle.cell_asks.specs.declared.asks.Wrote.{Wrote}
use Rattle.cell_asks.specs.declared.asks.Ruled.{Ruled}

abbrev pub look_answer : Option TableLook → TableAnswer
look_answer look = Answer.Told (told_look look)

abbrev pub names_answer : NameList → TableAnswer
names_answer list = Answer.Told (told_names list)

abbrev pub got_answer : Got → TableAnswer
got_answer (Got.Row item) = Answer.Row item
got_answer Got.Stale = Answer.Stale

abbrev pub wrote_answer : Wrote → TableAnswer
wrote_answer (Wrote.Written old new) = Answer.Written old new
wrote_answer (Wrote.Held number) = Answer.Held number
wrote_answer (Wrote.CondFalse old) = Answer.CondFalse old
wrote_answer (Wrote.Invalid fault) = Answer.Invalid fault
wrote_answer Wrote.Stale = Answer.Stale

-- none where its table or its index is gone
abbrev pub page_answer : Option Part → TableAnswer
page_answer None = Answer.Stale
page_answer (Some part) = Answer.Part (told_part part)

abbrev pub ruled_answer : Ruled → TableAnswer
ruled_answer (Ruled.Changed told) = Answer.Changed told
ruled_answer (Ruled.Refused told) = Answer.Refused told
ruled_answer (Ruled.Held number) = Answer.Held number
