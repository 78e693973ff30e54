-- Which answers a message can have.
use Rattle.txn_core.specs.declared.answer.Answer.{Answer}
use Rattle.cell_model.specs.declared.answer.CatalogAnswer.TheVariants as catalog
use Rattle.table_history.specs.Entries.{TableAnswer}

abbrev pub IsOfGet : TableAnswer → Type 0
IsOfGet (Answer.Row item) = Unit {0}
IsOfGet Answer.Stale = Unit {0}
IsOfGet _ = ⊥

abbrev pub IsOfWrite : TableAnswer → Type 0
IsOfWrite (Answer.Written old new) = Unit {0}
IsOfWrite (Answer.Held number) = Unit {0}
IsOfWrite (Answer.CondFalse old) = Unit {0}
IsOfWrite (Answer.Invalid fault) = Unit {0}
IsOfWrite Answer.Stale = Unit {0}
IsOfWrite _ = ⊥

abbrev pub IsOfLook : TableAnswer → Type 0
IsOfLook (Answer.Told (catalog.Table number schema indexes)) = Unit {0}
IsOfLook (Answer.Told catalog.NoTable) = Unit {0}
IsOfLook _ = ⊥

abbrev pub IsOfNames : TableAnswer → Type 0
IsOfNames (Answer.Told (catalog.NameList names more)) = Unit {0}
IsOfNames _ = ⊥

abbrev pub IsOfPage : TableAnswer → Type 0
IsOfPage (Answer.Part (catalog.Part rows room stopped)) = Unit {0}
IsOfPage Answer.Stale = Unit {0}
IsOfPage _ = ⊥

abbrev pub IsOfCommand : TableAnswer → Type 0
IsOfCommand (Answer.Changed told) = Unit {0}
IsOfCommand (Answer.Refused told) = Unit {0}
IsOfCommand (Answer.Held number) = Unit {0}
IsOfCommand _ = ⊥
