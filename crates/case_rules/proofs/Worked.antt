-- Definitions of the laws that no call computes, on a worked history of orders over 16 partitions: a transaction writes the
-- orders 1 and 2, which lie in the cells 1 and 2, and the control cell is the cell 16.
use Rattle.std.proofs.Common.{◌≡◌, ℕ, Bool, true, false, [], ◌∷◌, None, Some, refl}
use Rattle.txn_core.specs.declared.stamp.Stamp.{Stamp}
use Rattle.txn_core.specs.declared.fate.Fate.{Fate}
use Rattle.txn_core.specs.declared.verdict.Verdict.{Verdict}
use Rattle.txn_core.specs.declared.message.Message.{Message}
use Rattle.txn_core.specs.declared.answer.Answer.{Answer}
use Rattle.txn_core.specs.declared.course.Move.{Move}
use Rattle.txn_core.specs.Course.{Told as Course, next_move}
use Rattle.txn_core.specs.Service.{Asked, Reply, Event, History}
use Rattle.txn_core.specs.Serial.{Whole, Single, serial, tables, shown}
use Rattle.txn_core.specs.History.{effects}
use Rattle.txn_core.specs.Legal.{state, IsAnswer}
use Rattle.txn_core.specs.Cells.{of_cell, IsAlike}
use Rattle.txn_core.specs.Driver.{entry, Knows}
use Rattle.txn_core.proofs.Basics.{none_some}
use Rattle.case_rules.specs.declared.key.Name.TheVariants.{Orders}
use Rattle.case_rules.specs.declared.key.Key.{Key}
use Rattle.case_rules.specs.declared.item.Item.{Item}
use Rattle.case_rules.specs.declared.action.Condition.TheVariants.{Always}
use Rattle.case_rules.specs.declared.action.Deed.TheVariants.{Put}
use Rattle.case_rules.specs.declared.action.Action.{Action}
use Rattle.case_rules.specs.declared.catalog.Command.TheVariants.{Create}
use Rattle.case_rules.specs.declared.question.Told.TheVariants.{Numbered}
use Rattle.case_rules.specs.Actions.{removal}
use Rattle.case_rules.specs.Shop.{service}

abbrev order : ℕ → Key
order number = record { name = Orders; table = 1; customer = None; number = number }

abbrev worth : ℕ → Item
worth amount = record { customer = None; amount = amount; expires = None }

abbrev put : ℕ → ℕ → Action
put number amount = record { key = order number; condition = Always; deed = Put (worth amount) }

abbrev at_cell : ℕ → Asked (service 16) → Reply (service 16) → Event (service 16)
at_cell cell m a = entry 1 (Some cell) m a 7

abbrev stamp : Stamp
stamp = record { moment = 7; number = 1 }

abbrev create : Event (service 16)
create = entry 1 None (Message.Command (Create Orders None)) (Answer.Changed (Numbered 1)) 5

abbrev begin : Event (service 16)
begin = at_cell 16 (Message.Begin None (put 1 8 ∷ put 2 9 ∷ [])) (Answer.Begun 1 stamp)

abbrev prepare_1 : Event (service 16)
prepare_1 = at_cell 1 (Message.Prepare 1 stamp (put 1 8)) Answer.Accepted

abbrev prepare_2 : Event (service 16)
prepare_2 = at_cell 2 (Message.Prepare 1 stamp (put 2 9)) Answer.Accepted

abbrev commit : Event (service 16)
commit = at_cell 16 (Message.Decide 1 true []) (Answer.Decided Fate.Committed true)

abbrev apply_1 : Event (service 16)
apply_1 = at_cell 1 (Message.Apply 1 (order 1)) Answer.Applied

abbrev apply_2 : Event (service 16)
apply_2 = at_cell 2 (Message.Apply 1 (order 2)) Answer.Applied

abbrev history : History (service 16)
history = apply_1 ∷ commit ∷ prepare_2 ∷ prepare_1 ∷ begin ∷ create ∷ []

-- the commit makes both orders at once, and readers are shown them one by one as they are applied
committed_order :
    serial (effects (commit ∷ prepare_2 ∷ prepare_1 ∷ begin ∷ create ∷ []))
    ≡ Whole 1 stamp (put 1 8 ∷ put 2 9 ∷ []) ∷ serial (effects (create ∷ []))
committed_order = refl

committed_2 : tables (service 16).core (serial (effects history)) (order 2) ≡ Some (worth 9)
committed_2 = refl

shown_before : shown (service 16).core (effects history) (order 2) ≡ None
shown_before = refl

shown_after : shown (service 16).core (effects (apply_2 ∷ history)) (order 2) ≡ Some (worth 9)
shown_after = refl

-- each cell's own entries
of_1 : of_cell 1 history ≡ apply_1 ∷ prepare_1 ∷ create ∷ []
of_1 = refl

of_2 : of_cell 2 history ≡ prepare_2 ∷ create ∷ []
of_2 = refl

of_control : of_cell 16 history ≡ commit ∷ begin ∷ create ∷ []
of_control = refl

-- the cell 1 has its order without knowing of the commit, and answers by that; the cell 2 holds its order still
row_1 : ((state (service 16) (of_cell 1 history)).spot (order 1)).row ≡ Some (worth 8)
row_1 = refl

answer_1 : IsAnswer (service 16) (of_cell 1 history) 9 (Message.Get (order 1)) (Answer.Row (Some (worth 8)))
answer_1 = refl

held_2 : IsAnswer (service 16) (of_cell 2 history) 9 (Message.Write (put 2 5)) (Answer.Held 1)
held_2 = refl

-- of another cell's order a cell knows nothing
row_of_other : ((state (service 16) (of_cell 2 history)).spot (order 1)).row ≡ None
row_of_other = refl

-- an Apply makes a difference to its cell
not_alike : IsAlike (service 16) 1 (prepare_1 ∷ create ∷ []) (apply_1 ∷ prepare_1 ∷ create ∷ []) → ⊥
not_alike h =
    none_some ((state (service 16) (prepare_1 ∷ create ∷ [])).spot (order 1)).row (worth 8) refl (λ j. (h.items (order 1) refl j).row)

-- after the first Prepare the driver knows that it was accepted, and the second comes next
abbrev told_1 : Course
told_1 = record { actions = 2; verdicts = Verdict.Accepted ∷ []; fate = Fate.Undecided; done = 0 }

next_1 : next_move told_1 ≡ Move.Prepare 1
next_1 = refl

-- a driver that believes both accepted doesn't know that
unknown_2 :
    Knows (service 16) (prepare_1 ∷ begin ∷ create ∷ []) 1 (record told_1 { verdicts = Verdict.Accepted ∷ Verdict.Accepted ∷ [] })
    → ⊥
unknown_2 h = let second = h.accepted 1 Verdict.Accepted (put 2 9) refl refl refl in cc

-- nor one that believes a commit before it came
unknown_commit :
    Knows (service 16) (prepare_2 ∷ prepare_1 ∷ begin ∷ create ∷ []) 1 (record told_1 { fate = Fate.Committed }) → ⊥
unknown_commit h = let committed = h.committed refl in cc

-- the removal of an order is answered and stands in the one order as any other write, and leaves none; an order that expires
-- at the moment 9 is expired from then on
removed : IsAnswer (service 16) history 9 (Message.Write (removal (order 1))) (Answer.Written (Some (worth 8)) None)
removed = refl

abbrev remove_1 : Event (service 16)
remove_1 = at_cell 1 (Message.Write (removal (order 1))) (Answer.Written (Some (worth 8)) None)

removal_order : serial (effects (remove_1 ∷ history)) ≡ Single (removal (order 1)) ∷ serial (effects history)
removal_order = refl

row_removed : ((state (service 16) (remove_1 ∷ history)).spot (order 1)).row ≡ None
row_removed = refl

abbrev expired_at : ℕ → Bool
expired_at moment =
    (service 16).core.expired (service 16).core.empty (order 1) (record (worth 8) { expires = Some 9 }) moment

expires_before : expired_at 8 ≡ false
expires_before = refl

expires_then : expired_at 9 ≡ true
expires_then = refl
