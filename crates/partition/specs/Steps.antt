-- One message of those that a cell answers by itself.
use Rattle.std.specs.Prelude.{◌≡◌, ℕ, Bool, true, false, nat_lt, ◌∷◌, Some}
use Rattle.std.specs.declared.cmp.Ord as ord
use Rattle.std.specs.declared.cmp.PartialEq as eq
use Rattle.std.specs.declared.cmp.PartialOrd as partial
use Rattle.txn_core.specs.declared.message.Message.{Message}
use Rattle.txn_core.specs.Service.{Service, Asked, Reply, Event, History}
use Rattle.txn_core.specs.Legal.{IsAnswer, sent_to}
use Rattle.partition.specs.declared.cell.Partition.{Partition}
use Rattle.index_changes.specs.Entries.{LocalEntries}
use Rattle.partition.specs.InStep.{IsInStep}
use Rattle.partition.specs.Says.{Stands}

-- the message goes to one partition, and a cell that it names is one of so many partitions
abbrev pub is_served : {K V A F D Q : Type 0} → ℕ → Message K V A F D Q → Bool
is_served partitions (Message.Get key) = true
is_served partitions (Message.Write action) = true
is_served partitions (Message.Expire action) = true
is_served partitions (Message.Prepare n stamp action) = true
is_served partitions (Message.Apply n key) = true
is_served partitions (Message.Release n key) = true
is_served partitions (Message.ReadVersion key) = true
is_served partitions (Message.QueryPage page) = true
is_served partitions (Message.ScanPage page) = true
is_served partitions (Message.ExpiredKeys cell limit) = nat_lt cell partitions
is_served partitions (Message.Pendings cell) = nat_lt cell partitions
is_served partitions (Message.PeekOut source) = nat_lt source partitions
is_served partitions (Message.ApplyIndex source sequence index row_key after) = nat_lt source partitions
is_served partitions (Message.Ack source sequence) = nat_lt source partitions
is_served partitions _ = false

module _
    {K V A F C D Q B : Type 0} (S : Service K V A F C D Q B) {O : ord.Ghosts K} {E : eq.Ghosts K} {P : partial.Ghosts K}
    {N : Type 0} {X : ord.Ghosts N} {Y : eq.Ghosts N} {Z : partial.Ghosts N} where
  -- of all entries for which the cell stands to which the message goes, in step, the answer is theirs
  abbrev pub StepAnswers : LocalEntries K V C N → Partition K V C N O E P X Y Z → Asked S → ℕ → Reply S → Type 0
  StepAnswers L c m moment a =
      (i : ℕ) (es : History S) → sent_to S m ≡ Some i → Stands S i c es → IsInStep S L c → IsAnswer S es moment m a

  -- and the cell stands for them with the entry of the message
  abbrev pub StepStands : Partition K V C N O E P X Y Z → Partition K V C N O E P X Y Z → Asked S → ℕ → Reply S → Type 0
  StepStands c d m moment a =
      (i : ℕ) (es : History S) (e : Event S) → e.message ≡ m → e.answer ≡ a → e.moment ≡ moment
      → sent_to S m ≡ Some i → Stands S i c es → Stands S i d (e ∷ es)

  -- the cell stands for them as before
  abbrev pub StepKeeps : Partition K V C N O E P X Y Z → Partition K V C N O E P X Y Z → Asked S → Type 0
  StepKeeps c d m = (i : ℕ) (es : History S) → sent_to S m ≡ Some i → Stands S i c es → Stands S i d es
