-- What a record says, and what becomes of it.
use Rattle.std.specs.Prelude.{ℕ, Bool, true, false, not, List, [], map, filter, Option, None, Some}
use Rattle.txn_core.specs.declared.stamp.Stamp.{Stamp}
use Rattle.txn_core.specs.declared.fate.Fate.{Fate}
use Rattle.txn_core.specs.declared.fate.Fate.TheVariants.{Undecided, Committed, Cancelled, Gone}
use Rattle.txn_ledger.specs.declared.record.Record.{Record}

-- the fate after a Decide, and whether this one set it: the first one does
abbrev pub fate_after : Fate → Bool → Fate × Bool
fate_after Undecided true = (Committed, true)
fate_after Undecided false = (Cancelled, true)
fate_after Committed commit = (Committed, false)
fate_after Cancelled commit = (Cancelled, false)
fate_after Gone commit = (Gone, false)

-- the Decide cancelled the transaction
abbrev pub cancels : Fate × Bool → Bool
cancels (Cancelled, first) = first
cancels (fate, first) = false

-- the stamp of the transaction that has this number, begun at a moment
abbrev pub stamp_of : ℕ → ℕ → Stamp
stamp_of moment number = record { moment = moment; number = number }

module _ {A Q : Type 0} where
  -- the record of a transaction that was begun
  abbrev pub begun : Stamp → List A → Option (List ℕ) → Record A Q
  begun stamp actions token =
      record { stamp = stamp; actions = actions; token = token; fate = Undecided; reasons = []; done = false }

  -- as a Decide leaves it
  abbrev pub decided_as : Fate × Bool → List Q → Record A Q → Record A Q
  decided_as (fate, true) reasons r = record r { fate = fate; reasons = reasons }
  decided_as (fate, false) reasons r = r

  abbrev pub decided : Bool → List Q → Record A Q → Record A Q
  decided commit reasons r = decided_as (fate_after r.fate commit) reasons r

  abbrev pub finished : Record A Q → Record A Q
  finished r = record r { done = true }

  -- what a Decide is answered where there may be a record
  abbrev pub answer_to : Option (Record A Q) → Bool → Fate × Bool
  answer_to None commit = (Gone, false)
  answer_to (Some r) commit = fate_after r.fate commit

  abbrev pub fate_of : Option (Record A Q) → Fate
  fate_of None = Gone
  fate_of (Some r) = r.fate

  abbrev pub token_of : Option (Record A Q) → Option (List ℕ)
  token_of None = None
  token_of (Some r) = r.token

  -- the numbers of those that are not done
  abbrev pub unfinished_in : List (ℕ × Record A Q) → List ℕ
  unfinished_in entries = map (λ entry. entry.0) (filter (λ entry. not entry.1.done) entries)
