-- An entry's cell and moment, and the entries up to a place.
use Rattle.std.proofs.Common.{◌≡◌, ℕ, Bool, true, false, Option, None, Some, reverse, refl, sym, ◌∙◌, subst}
use Rattle.std.specs.Prelude.{◌↔◌, IsTrue}
use Rattle.std.specs.declared.cmp.Ord as ord
use Rattle.std.specs.declared.cmp.PartialEq as eq
use Rattle.std.specs.declared.cmp.PartialOrd as partial
use Rattle.txn_core.specs.Service.{Service, Event, History}
use Rattle.txn_core.specs.Legal.{sent_to}
use Rattle.txn_core.specs.History.{IsTimely}
use Rattle.txn_core.specs.Breaks.{IsAt}
use Rattle.txn_core.proofs.Basics.{true_false}
use Rattle.index_changes.specs.Entries.{LocalEntries}
use Rattle.partition.specs.declared.cell.Partition.{Partition}
use Rattle.control_cell.specs.declared.cell.ControlCell.{ControlCell}
use Rattle.txn_replay.specs.declared.cells.Cells.{Cells}
use Rattle.txn_replay.specs.Standing.{Advances, AdvancesOn, JudgesAnswer, JudgesEntry}

at_itself : (c : Option ℕ) → IsAt c c
at_itself None = tt
at_itself (Some i) = refl

module _
    {R K V A F C D Q B N : Type 0} (S : Service K V A F C D Q B) (L : LocalEntries K V C N)
    {O : ord.Ghosts K} {E : eq.Ghosts K} {P : partial.Ghosts K} {X : ord.Ghosts N} {Y : eq.Ghosts N} {Z : partial.Ghosts N}
    (old new : Cells (Partition K V C N O E P X Y Z) (ControlCell R K V A F C D Q B) C) (past : History S) (e : Event S) where
  -- its moment is too early
  module _ (b : Bool) (timely : IsTrue b ↔ IsTimely (reverse past) e.pass e.moment) (no' : b ≡ false) where
    pub early : JudgesEntry S L old past e false
    early = record { judges = λ legal stand. (λ yes'. absurd (cc), λ right. absurd (true_false b (timely.1 right.timely) no')) }

    pub early_ends : AdvancesOn S L old new past e
    early_ends = record { advances = λ legal stand. absurd (true_false b (timely.1 legal.1.timely) no') }

  -- it is at another cell
  module _ (c : Option ℕ) (sent : c ≡ sent_to S e.message) (b : Bool) (at : IsTrue b ↔ IsAt e.cell c) where
    pub elsewhere : b ≡ false → JudgesEntry S L old past e false
    elsewhere no' = record {
      judges = λ legal stand. (
        λ yes'. absurd (cc),
        λ right. absurd (true_false b (at.1 (subst (λ k. IsAt e.cell k) (sym sent) right.cell)) no'),
      );
    }

    pub elsewhere_ends : b ≡ false → AdvancesOn S L old new past e
    elsewhere_ends no' = record {
      advances = λ legal stand.
          let same : e.cell ≡ c = legal.1.cell ∙ sym sent in
          absurd (true_false b (at.1 (subst (λ k. IsAt e.cell k) same (at_itself e.cell))) no');
    }

    -- all hangs on its answer
    pub by_answer : b ≡ true → IsTimely (reverse past) e.pass e.moment → (right : Bool) → JudgesAnswer S L old e right → JudgesEntry S L old past e right
    by_answer yes' timely right j = record {
      judges = λ legal stand.
          let h = j.judges (reverse past) legal stand in (
            λ t. record { answer = h.0 t; cell = subst (λ k. IsAt e.cell k) sent (at.0 yes'); timely = timely },
            λ is. h.1 is.answer,
          );
    }

  pub advances_on : Advances S L old new e → AdvancesOn S L old new past e
  advances_on a = record { advances = λ legal stand. a.advances (reverse past) legal stand }
