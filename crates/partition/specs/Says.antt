-- What messages are answered, and what they leave.
use Rattle.std.specs.Prelude.{◌≡◌, ℕ, []}
use Rattle.std.specs.declared.cmp.Ord as ord
use Rattle.std.specs.declared.cmp.PartialEq as eq
use Rattle.std.specs.declared.cmp.PartialOrd as partial
use Rattle.index_feed.specs.declared.change.Change.{Change}
use Rattle.index_feed.specs.Feed.{Feed, is_fed, out, start, step as feed_step}
use Rattle.txn_core.specs.declared.stamp.Stamp.{Stamp}
use Rattle.txn_core.specs.Indexing.{indexed}
use Rattle.txn_core.specs.Service.{Service, Asked, Reply, History}
use Rattle.txn_core.specs.State.{State, here, state_after, step}
use Rattle.txn_core.specs.History.{effect_of}
use Rattle.txn_core.specs.Answers.{get_answer, write_answer, expire_answer, prepare_answer, apply_answer, release_answer, version_answer, out_answer, feed_answer, ack_answer}
use Rattle.txn_core.specs.Feeding.{event_of, feed_after, has_sequence}
use Rattle.txn_core.specs.Legal.{only_expired, there_in, holder_in, last_in, outcome_in, state, IsPendingList}
use Rattle.partition.specs.declared.cell.Partition.{Partition}
use Rattle.partition.specs.Holds.{Holds}

module _ {K V A F C D Q B : Type 0} (S : Service K V A F C D Q B) where
  -- the state without items under a catalog
  abbrev pub first_state : C → State K V A C
  first_state cat = record (state_after S.core []) { catalog = cat }

  -- and the feed
  abbrev pub first_feed : C → Feed K V C
  first_feed cat = start (indexed S.core S.index) cat

  -- the answers in a state, and to the messages of the feed
  abbrev pub get_says : State K V A C → K → Reply S
  get_says w key = get_answer (there_in S w key) (w.spot key).row

  abbrev pub version_says : State K V A C → K → Reply S
  version_says w key =
      let s = w.spot key in version_answer (there_in S w key) s.row s.version (here S.core w key).gone (holder_in S w key)

  abbrev pub write_says : State K V A C → A → Reply S
  write_says w action =
      let k = S.core.key_of action in write_answer (there_in S w k) (holder_in S w k) (w.spot k).row (outcome_in S w action)

  abbrev pub expire_says : State K V A C → A → ℕ → Reply S
  expire_says w action moment =
      let k = S.core.key_of action in
      let over = only_expired S w.catalog k moment (w.spot k).row in
      expire_answer (there_in S w k) (holder_in S w k) over (outcome_in S w action)

  abbrev pub prepare_says : State K V A C → ℕ → Stamp → A → Reply S
  prepare_says w n stamp action =
      let k = S.core.key_of action in
      prepare_answer (there_in S w k) (holder_in S w k) n (last_in S w k) stamp (w.spot k).row (outcome_in S w action)

  abbrev pub apply_says : State K V A C → ℕ → K → Reply S
  apply_says w n key = apply_answer (holder_in S w key) n

  abbrev pub release_says : State K V A C → ℕ → K → Reply S
  release_says w n key = release_answer (holder_in S w key) n

  abbrev pub out_says : Feed K V C → ℕ → Reply S
  out_says f i = out_answer S.core.cell_of (out (indexed S.core S.index) f i)

  abbrev pub feed_says : Feed K V C → ℕ → ℕ → Change K V → Reply S
  feed_says f source sequence x = feed_answer (is_fed (indexed S.core S.index) f source sequence x)

  abbrev pub ack_says : Feed K V C → ℕ → ℕ → Reply S
  ack_says f i sequence = ack_answer (has_sequence (out (indexed S.core S.index) f i) sequence)

  module _
      {O : ord.Ghosts K} {E : eq.Ghosts K} {P : partial.Ghosts K}
      {N : Type 0} {X : ord.Ghosts N} {Y : eq.Ghosts N} {Z : partial.Ghosts N} where
    -- of every state and feed that the cell i holds the answer is this
    abbrev pub Says : ℕ → Partition K V C N O E P X Y Z → (State K V A C → Feed K V C → Reply S) → Reply S → Type 0
    Says i c answer a = (w : State K V A C) (f : Feed K V C) → Holds S i c w f → a ≡ answer w f

    -- of every state and feed that the cell i holds the answer lists the items that transactions hold
    abbrev pub SaysPendings : ℕ → Partition K V C N O E P X Y Z → Reply S → Type 0
    SaysPendings i c a = (w : State K V A C) (f : Feed K V C) → Holds S i c w f → IsPendingList S w i a

    -- every state and feed that the cell i held, it holds after the message that was answered so
    abbrev pub Leaves : ℕ → Partition K V C N O E P X Y Z → Partition K V C N O E P X Y Z → ℕ → Asked S → Reply S → Type 0
    Leaves i c d moment m a =
        (w : State K V A C) (f : Feed K V C) → Holds S i c w f
        → Holds S i d (step S.core w (effect_of moment m a)) (feed_step (indexed S.core S.index) f (event_of S w moment m a))

    -- every state and feed that the cell i held, it holds still
    abbrev pub Keeps : ℕ → Partition K V C N O E P X Y Z → Partition K V C N O E P X Y Z → Type 0
    Keeps i c d = (w : State K V A C) (f : Feed K V C) → Holds S i c w f → Holds S i d w f

    -- the cell i holds what these entries make of it
    abbrev pub Stands : ℕ → Partition K V C N O E P X Y Z → History S → Type 0
    Stands i c es = Holds S i c (state S es) (feed_after S es)
