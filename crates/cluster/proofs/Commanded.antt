-- What one cell does in a command.
use Rattle.std.proofs.Common.{◌≡◌, ℕ, List, ◌∷◌, cond, None, refl, sym, ap, ◌∙◌, subst, arith}
use Rattle.std.specs.declared.cmp.Ord as ord
use Rattle.std.specs.declared.cmp.PartialEq as eq
use Rattle.std.specs.declared.cmp.PartialOrd as partial
use Rattle.txn_core.specs.Service.{Service, Event, History}
use Rattle.txn_core.specs.Feeding.{feed_after}
use Rattle.txn_core.specs.Legal.{IsLegal, sent_to, state}
use Rattle.txn_core.specs.Cells.{of_cell, reaches}
use Rattle.partition.specs.declared.cell.Partition.{Partition}
use Rattle.index_changes.specs.Entries.{LocalEntries}
use Rattle.index_changes.specs.declared.command_rules.TableChange.{TableChange}
use Rattle.partition.specs.InStep.{StaysInStep}
use Rattle.partition.specs.Says.{Keeps}
use Rattle.partition.specs.Carrying.{CarriesOwnEntries, CarriesOwnOut, IsCarriedOut}
use Rattle.control_cell.specs.declared.cell.ControlCell.{ControlCell}
use Rattle.control_cell.specs.Holding.{Holds}
use Rattle.control_cell.specs.Plans.{TakesPlan}
use Rattle.cluster.specs.declared.cell.ClusterCell.{ClusterCell}
use Rattle.cluster.specs.Commanding.{CarriesPlanned, KeepsAll, TakesCatalog}

module _ {K V A F C D Q B : Type 0} (S : Service K V A F C D Q B) where
  -- an entry over all cells is one of each
  pub of_each : (i : ℕ) (es : History S) (e : Event S) → e.cell ≡ None → of_cell i (e ∷ es) ≡ e ∷ of_cell i es
  of_each i es e over = ap (λ k. cond (reaches k i) (e ∷ of_cell i es) (of_cell i es)) over

  -- a command that was carried out is over all cells
  pub over_all : (moment : ℕ) (d : D) (es : History S) (e : Event S) → IsCarriedOut S moment d e → IsLegal S (e ∷ es) → e.cell ≡ None
  over_all moment d es e is legal = legal.1.cell ∙ ap (λ m. sent_to S m) is.message

module _
    {R K V A F C D Q B N : Type 0} (S : Service K V A F C D Q B) (L : LocalEntries K V C N)
    {O : ord.Ghosts K} {E : eq.Ghosts K} {P : partial.Ghosts K} {X : ord.Ghosts N} {Y : eq.Ghosts N} {Z : partial.Ghosts N} where
  -- a partition that holds what it held, in step where it was, stands for all that it stood for
  pub keeps_all :
      (v : ClusterCell (Partition K V C N O E P X Y Z) (ControlCell R K V A F C D Q B)) (p q : Partition K V C N O E P X Y Z)
      → v ≡ ClusterCell.Partition p → ((i : ℕ) → Keeps S i p q) → StaysInStep S L p q → KeepsAll S L v (ClusterCell.Partition q)
  keeps_all v p q is keeps steps =
      subst (λ x. KeepsAll S L x (ClusterCell.Partition q)) (sym is)
      record { keeps = λ i es stands. (stands.0, keeps i (state S es) (feed_after S es) stands.1, steps stands.2) }

  module _ (target : D → C → TableChange) (numbers : C → ℕ → List ℕ) where
    pub carries_planned :
        (v : ClusterCell (Partition K V C N O E P X Y Z) (ControlCell R K V A F C D Q B)) (p q : Partition K V C N O E P X Y Z)
        → v ≡ ClusterCell.Partition p → (moment : ℕ) → ((i : ℕ) → CarriesOwnOut S L target numbers i p q moment)
        → ((i : ℕ) → CarriesOwnEntries S L target numbers i p q moment)
        → CarriesPlanned S L target numbers v (ClusterCell.Partition q) moment
    carries_planned v p q is moment carries steps =
        subst (λ x. CarriesPlanned S L target numbers x (ClusterCell.Partition q) moment) (sym is)
        record {
          carries = λ i es e d below planned out legal stands.
              (stands.0, carries i d es e planned out legal stands.1, steps i d es e planned out legal stands.1 stands.2);
        }

    -- the control cell is none of them
    pub control_carries :
        (v : ClusterCell (Partition K V C N O E P X Y Z) (ControlCell R K V A F C D Q B)) (moment : ℕ)
        → ((p : Partition K V C N O E P X Y Z) → v ≡ ClusterCell.Partition p → ⊥) → CarriesPlanned S L target numbers v v moment
    control_carries (ClusterCell.Partition p) moment other = absurd (other p refl)
    control_carries (ClusterCell.Control c) moment other =
        record { carries = λ i es e d below planned out legal stands. absurd (let at = stands.0 in omega arith) }

  pub takes_catalog :
      (v : ClusterCell (Partition K V C N O E P X Y Z) (ControlCell R K V A F C D Q B)) (c d : ControlCell R K V A F C D Q B)
      → v ≡ ClusterCell.Control c → (moment : ℕ) (next : C) → TakesPlan S c d moment next → TakesCatalog S L v (ClusterCell.Control d) moment next
  takes_catalog v c d is moment next takes =
      subst (λ x. TakesCatalog S L x (ClusterCell.Control d) moment next) (sym is)
      record {
        takes = λ i es e command at made out legal stands. (
          stands.0,
          subst (λ own. Holds S own d) (sym (of_each S i es e (over_all S moment command es e out legal)))
              (takes (of_cell i es) e command out.told stands.1 (made ∙ ap (λ cat. S.core.change command moment cat) (sym stands.1.catalog_is))
              record { moment_is = out.moment_is; message_is = out.message; answer_is = out.answer }),
        );
      }
