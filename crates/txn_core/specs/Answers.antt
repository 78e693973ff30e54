-- What each message is answered, by what its cell knows.
use Rattle.std.specs.Prelude.{ℕ, zero, suc, Bool, true, false, not, ◌&&◌, nat_eq, nat_lt, nat_le, List, [], ◌∷◌, ◌++◌, Option, None, Some, is_some, if◌then◌else◌}
use Rattle.std.specs.List.{filter}
use Rattle.txn_core.specs.declared.stamp.Stamp.{Stamp}
use Rattle.txn_core.specs.declared.fate.Fate.{Fate}
use Rattle.txn_core.specs.declared.reason.Reason.{Reason}
use Rattle.txn_core.specs.declared.answer.Answer.{Answer}
use Rattle.txn_core.specs.Stamps.{earlier}
use Rattle.txn_core.specs.declared.outcome.Outcome.{Outcome}
use Rattle.txn_core.specs.declared.outcome.Outcome.TheVariants.{New, Unmet, Fails}
use Rattle.txn_core.specs.State.{Ledger}
use Rattle.index_feed.specs.Feed.{Out}

-- what is kept with a token: the number and the actions of its transaction, and the moment of its first Done
pub record KeptToken (A : Type 0) : Type 0 where
  pub number : ℕ
  pub actions : List A
  pub completed : Option ℕ

-- the transaction holds the item
abbrev pub is_holder : Option ℕ → ℕ → Bool
is_holder None n = false
is_holder (Some m) n = nat_eq m n

-- the number has a record: it was drawn and is not forgotten
abbrev pub has_record : {A : Type 0} → Ledger A → ℕ → Bool
has_record l n = nat_le 1 n && (nat_lt n l.next && not (l.gone n))

-- the numbers below n, ascending
abbrev pub numbers_below : ℕ → List ℕ
numbers_below zero = []
numbers_below (suc n) = numbers_below n ++ n ∷ []

-- those that are begun and not done
abbrev pub unfinished : {A : Type 0} → Ledger A → List ℕ
unfinished l = filter (λ n. nat_le 1 n && not (l.done n)) (numbers_below l.next)

module _ {K V A F B : Type 0} where
  -- a Get; of a table that is gone, Stale
  abbrev pub get_answer : Bool → Option V → Answer K V A F B
  get_answer false row = Answer.Stale
  get_answer true row = Answer.Row row

  -- a Write, by whether the table is there, who holds the item, the row, and the action's outcome on it
  abbrev pub write_answer : Bool → Option ℕ → Option V → Outcome V F → Answer K V A F B
  write_answer false holding row outcome = Answer.Stale
  write_answer true (Some n) row outcome = Answer.Held n
  write_answer true None row (New v) = Answer.Written row v
  write_answer true None row Unmet = Answer.CondFalse row
  write_answer true None row (Fails fault) = Answer.Invalid fault

  -- an expiration, by whether the table is there, who holds the item, the item where it is expired, and what its action makes
  -- of it
  abbrev pub expire_answer : Bool → Option ℕ → Option V → Outcome V F → Answer K V A F B
  expire_answer false holding over outcome = Answer.Stale
  expire_answer true (Some n) over outcome = Answer.Held n
  expire_answer true None None outcome = Answer.Kept
  expire_answer true None (Some old) (New None) = Answer.Expired old
  expire_answer true None (Some old) (New (Some v)) = Answer.Kept
  expire_answer true None (Some old) Unmet = Answer.Kept
  expire_answer true None (Some old) (Fails fault) = Answer.Kept

  abbrev pub outcome_answer : Option V → Outcome V F → Answer K V A F B
  outcome_answer row (New v) = Answer.Accepted
  outcome_answer row Unmet = Answer.CondFalse row
  outcome_answer row (Fails fault) = Answer.Invalid fault

  -- a Prepare of n with its stamp: also by the stamp at which the item was changed last
  abbrev pub prepare_answer : Bool → Option ℕ → ℕ → Stamp → Stamp → Option V → Outcome V F → Answer K V A F B
  prepare_answer false holding n last stamp row outcome = Answer.Stale
  prepare_answer true (Some m) n last stamp row outcome = if nat_eq m n then Answer.Accepted else Answer.Held m
  prepare_answer true None n last stamp row outcome = if earlier last stamp then outcome_answer row outcome else Answer.Late last

  abbrev pub apply_answer : Option ℕ → ℕ → Answer K V A F B
  apply_answer holding n = if is_holder holding n then Answer.Applied else Answer.Nothing

  abbrev pub release_answer : Option ℕ → ℕ → Answer K V A F B
  release_answer holding n = if is_holder holding n then Answer.Released else Answer.Nothing

  -- the version of an absent item is that of its cell's last change which left an item absent
  abbrev pub version_answer : Bool → Option V → ℕ → ℕ → Option ℕ → Answer K V A F B
  version_answer false row version gone holding = Answer.Stale
  version_answer true row version gone holding = Answer.Version row (if is_some row then version else gone) holding

  -- a Begin, by whether the tables are there, what its token is kept with, and the stamp that would be drawn
  abbrev pub begin_answer : (List A → List A → Bool) → Bool → Option (KeptToken A) → List A → Stamp → Answer K V A F B
  begin_answer same false kept actions stamp = Answer.Stale
  begin_answer same true None actions stamp = Answer.Begun stamp.number stamp
  begin_answer same true (Some kept) actions stamp =
      if same kept.actions actions
      then (if is_some kept.completed then Answer.Repeat kept.number else Answer.Running kept.number)
      else Answer.Mismatch kept.number

  -- a Decide: the first one sets the fate
  abbrev pub decide_answer : Bool → Fate → Bool → Answer K V A F B
  decide_answer false fate commit = Answer.Decided Fate.Gone false
  decide_answer true Fate.Undecided true = Answer.Decided Fate.Committed true
  decide_answer true Fate.Undecided false = Answer.Decided Fate.Cancelled true
  decide_answer true fate commit = Answer.Decided fate false

  abbrev pub done_answer : Bool → Answer K V A F B
  done_answer recorded = if recorded then Answer.Finished else Answer.Nothing

  abbrev pub forget_answer : Bool → Answer K V A F B
  forget_answer recorded = if recorded then Answer.Forgotten else Answer.Nothing

  abbrev pub fate_answer : Bool → Fate → Answer K V A F B
  fate_answer recorded fate = Answer.Is (if recorded then fate else Fate.Gone)

  abbrev pub recall_answer : Bool → Fate → Stamp → List A → List (Reason V F) → Answer K V A F B
  recall_answer false fate stamp actions reasons = Answer.Unknown
  recall_answer true fate stamp actions reasons = Answer.Known fate stamp actions reasons

  -- a page, by whether its table and index are there, and what it tells
  abbrev pub page_answer : Bool → B → Answer K V A F B
  page_answer false told = Answer.Stale
  page_answer true told = Answer.Part told

  -- a PeekOut, by the cells of rows and the first of the outbox
  abbrev pub out_answer : (K → ℕ) → Option (Out K V) → Answer K V A F B
  out_answer cell_of None = Answer.Empty
  out_answer cell_of (Some o) =
      Answer.Out o.sequence o.change.index (cell_of o.change.key) o.change.key o.change.after

  -- an ApplyIndex, by whether it changes the row or the mark
  abbrev pub feed_answer : Bool → Answer K V A F B
  feed_answer changes = if changes then Answer.Fed else Answer.Already

  -- an Ack, by whether the outbox's first has its sequence
  abbrev pub ack_answer : Bool → Answer K V A F B
  ack_answer first = if first then Answer.Acked else Answer.Nothing
