-- What a cell says of its own entries is so of the whole history.
use Rattle.std.proofs.Common.{◌≡◌, ℕ, true, cond, ◌∷◌, Some, refl, sym, ap, ◌∙◌, subst, eq-eqb}
use Rattle.std.specs.declared.cmp.Ord as ord
use Rattle.std.specs.declared.cmp.PartialEq as eq
use Rattle.std.specs.declared.cmp.PartialOrd as partial
use Rattle.txn_core.specs.Service.{Service, IsServiceLawful, Asked, Reply, History}
use Rattle.txn_core.specs.Legal.{Allowed, sent_to}
use Rattle.txn_core.specs.Cells.{reaches, of_cell}
use Rattle.txn_core.proofs.Exports.{own_entries_answer}
use Rattle.partition.specs.declared.cell.Partition.{Partition}
use Rattle.index_changes.specs.Entries.{LocalEntries}
use Rattle.partition.specs.InStep.{StaysInStep}
use Rattle.partition.specs.Steps.{StepAnswers, StepKeeps, StepStands, is_served}
use Rattle.control_cell.specs.declared.cell.ControlCell.{ControlCell}
use Rattle.control_cell.specs.Holding.{Answers, Holds, OwnEntriesTellIt, TakesAllowed, Unchanged, UnchangedHolds}
use Rattle.cluster.specs.declared.cell.ClusterCell.{ClusterCell}
use Rattle.cluster.specs.Standing.{StandsFor}
use Rattle.cluster.specs.Serving.{IsServedAt, ServeAnswers, ServeKeeps, ServeStands, Serves}

module _
    {R K V A F C D Q B N : Type 0} (S : Service K V A F C D Q B) (L : LocalEntries K V C N)
    {O : ord.Ghosts K} {E : eq.Ghosts K} {P : partial.Ghosts K} {X : ord.Ghosts N} {Y : eq.Ghosts N} {Z : partial.Ghosts N} where
  -- a partition
  module _ (v : ClusterCell (Partition K V C N O E P X Y Z) (ControlCell R K V A F C D Q B)) (p : Partition K V C N O E P X Y Z) (is : v ≡ ClusterCell.Partition p) where
    pub partition_answers :
        IsServiceLawful S → (m : Asked S) (moment : ℕ) (a : Reply S) → StepAnswers S L p m moment a → ServeAnswers S L v m moment a
    partition_answers law m moment a says =
        subst (λ x. ServeAnswers S L x m moment a) (sym is)
        record { answers = λ i es sent legal stands. (own_entries_answer S law es legal i moment m a sent).1 (says i (of_cell i es) sent stands.1 stands.2) }

    pub partition_stands :
        (q : Partition K V C N O E P X Y Z) (m : Asked S) (moment : ℕ) (a : Reply S) → StepStands S p q m moment a → StaysInStep S L p q
        → ServeStands S L v (ClusterCell.Partition q) m moment a
    partition_stands q m moment a leaves steps =
        subst (λ x. ServeStands S L x (ClusterCell.Partition q) m moment a) (sym is)
        record {
          stands = λ i es e sent legal follows is stands.
              (stands.0, leaves i (of_cell i es) e is.message_is is.answer_is is.moment_is sent stands.1, steps stands.2);
        }

    pub partition_keeps :
        (q : Partition K V C N O E P X Y Z) (m : Asked S) → StepKeeps S p q m → StaysInStep S L p q → ServeKeeps S L v (ClusterCell.Partition q) m
    partition_keeps q m keeps steps =
        subst (λ x. ServeKeeps S L x (ClusterCell.Partition q) m) (sym is)
        record { keeps = λ i es sent stands. (stands.0, keeps i es sent stands.1, steps stands.2) }

  -- the control cell: what its own entries make of it, the whole history does
  module _ (v : ClusterCell (Partition K V C N O E P X Y Z) (ControlCell R K V A F C D Q B)) (c : ControlCell R K V A F C D Q B) (is : v ≡ ClusterCell.Control c) where
    pub control_answers :
        OwnEntriesTellIt R S → (m : Asked S) (moment : ℕ) (a : Reply S) → Answers S c moment m a → ServeAnswers S L v m moment a
    control_answers tell m moment a says =
        subst (λ x. ServeAnswers S L x m moment a) (sym is)
        record { answers = λ i es sent legal stands. says es ((tell es legal c).0 (subst (λ k. Holds S (of_cell k es) c) stands.0 stands.1)) }

    pub control_stands :
        OwnEntriesTellIt R S → (d : ControlCell R K V A F C D Q B) (m : Asked S) (moment : ℕ) (a : Reply S) → TakesAllowed S c d moment m a
        → ServeStands S L v (ClusterCell.Control d) m moment a
    control_stands tell d m moment a takes =
        subst (λ x. ServeStands S L x (ClusterCell.Control d) m moment a) (sym is)
        record {
          stands = λ i es e sent legal follows is stands.
              let whole = (tell es legal c).0 (subst (λ k. Holds S (of_cell k es) c) stands.0 stands.1) in
              let after = takes es e whole (subst (λ x. Allowed S es e.pass x) is.message_is follows.allowed) is in
              let own = (tell (e ∷ es) (legal, follows) d).1 after in
              let cell : e.cell ≡ Some i = follows.cell ∙ (ap (λ x. sent_to S x) is.message_is ∙ sent) in
              let mine : of_cell i (e ∷ es) ≡ e ∷ of_cell i es =
              ap (λ b. cond b (e ∷ of_cell i es) (of_cell i es)) (ap (λ k. reaches k i) cell ∙ eq-eqb i i refl) in
              (stands.0, subst (λ xs. Holds S xs d) mine (subst (λ k. Holds S (of_cell k (e ∷ es)) d) (sym stands.0) own));
        }

    pub control_keeps :
        UnchangedHolds R S → (d : ControlCell R K V A F C D Q B) (m : Asked S) → Unchanged c d → ServeKeeps S L v (ClusterCell.Control d) m
    control_keeps kept d m same =
        subst (λ x. ServeKeeps S L x (ClusterCell.Control d) m) (sym is)
        record { keeps = λ i es sent stands. (stands.0, kept es c d same stands.1) }

  -- a cell that stands at its place serves what is served there
  pub serves :
      (i : ℕ) (m : Asked S) (v : ClusterCell (Partition K V C N O E P X Y Z) (ControlCell R K V A F C D Q B)) (es : History S) → IsServedAt S i m
      → StandsFor S L i v es → Serves S v m
  serves i m (ClusterCell.Partition p) es at stands =
      subst (λ k. is_served k m ≡ true) (sym stands.1.partitions) (at.by_partition stands.0)
  serves i m (ClusterCell.Control c) es at stands = at.by_control stands.0
