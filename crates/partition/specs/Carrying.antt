-- What carrying a planned command out leaves.
use Rattle.std.specs.Prelude.{◌≡◌, ℕ, List, ◌∷◌}
use Rattle.std.specs.declared.cmp.Ord as ord
use Rattle.std.specs.declared.cmp.PartialEq as eq
use Rattle.std.specs.declared.cmp.PartialOrd as partial
use Rattle.txn_core.specs.declared.message.Message.{Message}
use Rattle.txn_core.specs.declared.answer.Answer.{Answer}
use Rattle.txn_core.specs.Service.{Service, Event, History}
use Rattle.txn_core.specs.Cells.{of_cell}
use Rattle.txn_core.specs.Legal.{IsLegal}
use Rattle.partition.specs.declared.cell.Partition.{Partition}
use Rattle.index_changes.specs.declared.command_rules.TableChange.{TableChange}
use Rattle.index_changes.specs.Entries.{LocalEntries}
use Rattle.partition.specs.InStep.{StaysInStep}
use Rattle.partition.specs.Plans.{IsPlanned}
use Rattle.partition.specs.Says.{Stands}

module _ {K V A F C D Q B : Type 0} (S : Service K V A F C D Q B) where
  -- an entry of the command at a moment, which was carried out
  pub record IsCarriedOut (moment : ℕ) (command : D) (e : Event S) : Type 0 where
    pub moment_is : e.moment ≡ moment
    pub message : e.message ≡ Message.Command command
    pub told : B
    pub answer : e.answer ≡ Answer.Changed told

  module _
      {N : Type 0} (L : LocalEntries K V C N) (target : D → C → TableChange) (numbers : C → ℕ → List ℕ)
      {O : ord.Ghosts K} {E : eq.Ghosts K} {P : partial.Ghosts K} {X : ord.Ghosts N} {Y : eq.Ghosts N} {Z : partial.Ghosts N} where
    -- of every history after which the command may be carried out, the cell i, which stood for it and had planned the command,
    -- stands for it with the command's entry
    abbrev pub CarriesOut : ℕ → Partition K V C N O E P X Y Z → Partition K V C N O E P X Y Z → ℕ → Type 0
    CarriesOut i c d moment =
        (command : D) (es : History S) (e : Event S) → IsPlanned S L target numbers i c command moment → IsCarriedOut moment command e
        → IsLegal S (e ∷ es) → Stands S i c es → Stands S i d (e ∷ es)

    -- and so of its own entries of such a history
    abbrev pub CarriesOwnOut : ℕ → Partition K V C N O E P X Y Z → Partition K V C N O E P X Y Z → ℕ → Type 0
    CarriesOwnOut i c d moment =
        (command : D) (es : History S) (e : Event S) → IsPlanned S L target numbers i c command moment → IsCarriedOut moment command e
        → IsLegal S (e ∷ es) → Stands S i c (of_cell i es) → Stands S i d (of_cell i (e ∷ es))

    -- of every such history: where its local entries were in step with its items, they are so when the command is carried out
    abbrev pub CarriesEntries : ℕ → Partition K V C N O E P X Y Z → Partition K V C N O E P X Y Z → ℕ → Type 0
    CarriesEntries i c d moment =
        (command : D) (es : History S) (e : Event S) → IsPlanned S L target numbers i c command moment → IsCarriedOut moment command e
        → IsLegal S (e ∷ es) → Stands S i c es → StaysInStep S L c d

    -- and so where it stood for its own entries of the history
    abbrev pub CarriesOwnEntries : ℕ → Partition K V C N O E P X Y Z → Partition K V C N O E P X Y Z → ℕ → Type 0
    CarriesOwnEntries i c d moment =
        (command : D) (es : History S) (e : Event S) → IsPlanned S L target numbers i c command moment → IsCarriedOut moment command e
        → IsLegal S (e ∷ es) → Stands S i c (of_cell i es) → StaysInStep S L c d
