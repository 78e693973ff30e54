-- One message at the cell that it goes to.
use Rattle.std.specs.Prelude.{◌≡◌, ℕ, ◌<◌, ◌≤◌, true, ◌∷◌, Some}
use Rattle.std.specs.declared.cmp.Ord as ord
use Rattle.std.specs.declared.cmp.PartialEq as eq
use Rattle.std.specs.declared.cmp.PartialOrd as partial
use Rattle.txn_core.specs.Service.{Service, Asked, Reply, Event, History}
use Rattle.txn_core.specs.Legal.{IsAnswer, sent_to, Follows, IsLegal}
use Rattle.txn_core.specs.Cells.{of_cell}
use Rattle.partition.specs.declared.cell.Partition.{Partition}
use Rattle.index_changes.specs.Entries.{LocalEntries}
use Rattle.partition.specs.Steps.{is_served}
use Rattle.control_cell.specs.declared.cell.ControlCell.{ControlCell}
use Rattle.control_cell.specs.Holding.{IsEntry, goes_to_control}
use Rattle.cluster.specs.declared.cell.ClusterCell.{ClusterCell}
use Rattle.cluster.specs.Standing.{StandsFor}

-- the message is one that the cell i answers by itself
pub record IsServedAt {K V A F C D Q B : Type 0} (S : Service K V A F C D Q B) (i : ℕ) (m : Asked S) : Type 0 where
  pub within : i ≤ S.control
  pub by_partition : i < S.control → is_served S.control m ≡ true
  pub by_control : i ≡ S.control → goes_to_control S m ≡ true

module _
    {R K V A F C D Q B N : Type 0} (S : Service K V A F C D Q B) {O : ord.Ghosts K} {E : eq.Ghosts K} {P : partial.Ghosts K}
    {X : ord.Ghosts N} {Y : eq.Ghosts N} {Z : partial.Ghosts N} where
  -- this value answers the message by itself
  abbrev pub Serves : ClusterCell (Partition K V C N O E P X Y Z) (ControlCell R K V A F C D Q B) → Asked S → Type 0
  Serves (ClusterCell.Partition p) m = is_served p.partitions m ≡ true
  Serves (ClusterCell.Control c) m = goes_to_control S m ≡ true

module _
    {R K V A F C D Q B N : Type 0} (S : Service K V A F C D Q B) (L : LocalEntries K V C N)
    {O : ord.Ghosts K} {E : eq.Ghosts K} {P : partial.Ghosts K} {X : ord.Ghosts N} {Y : eq.Ghosts N} {Z : partial.Ghosts N} where
  -- of every legal history of whose entries at the cell the value is made, the answer is that history's
  pub record ServeAnswers
      (c : ClusterCell (Partition K V C N O E P X Y Z) (ControlCell R K V A F C D Q B)) (m : Asked S) (moment : ℕ) (a : Reply S)
      : Type 0 where
    pub answers :
        (i : ℕ) (es : History S) → sent_to S m ≡ Some i → IsLegal S es → StandsFor S L i c (of_cell i es) → IsAnswer S es moment m a

  -- and the value afterwards is made of these and the message's entry, where that may follow
  pub record ServeStands
      (c d : ClusterCell (Partition K V C N O E P X Y Z) (ControlCell R K V A F C D Q B)) (m : Asked S) (moment : ℕ) (a : Reply S)
      : Type 0 where
    pub stands :
        (i : ℕ) (es : History S) (e : Event S) → sent_to S m ≡ Some i → IsLegal S es → Follows S es e → IsEntry S moment m a e
        → StandsFor S L i c (of_cell i es) → StandsFor S L i d (e ∷ of_cell i es)

  -- the value afterwards is made of the same entries
  pub record ServeKeeps (c d : ClusterCell (Partition K V C N O E P X Y Z) (ControlCell R K V A F C D Q B)) (m : Asked S) : Type 0 where
    pub keeps : (i : ℕ) (es : History S) → sent_to S m ≡ Some i → StandsFor S L i c es → StandsFor S L i d es
