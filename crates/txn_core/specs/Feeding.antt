-- Outboxes, marks and index rows: what the entries of a history make of them, by a fold of its own.
use Rattle.std.specs.Prelude.{ℕ, Bool, false, nat_eq, List, [], ◌∷◌, Option, None, Some}
use Rattle.index_feed.specs.declared.change.Change.{Change}
use Rattle.index_feed.specs.Feed.{Out, Feed, Event as FeedEvent, Sets, Commands, Peeks, Feeds, Acks, Rests, showing, feed, items_in, rows_in}
use Rattle.txn_core.specs.declared.message.Message.{Message}
use Rattle.txn_core.specs.declared.answer.Answer.{Answer}
use Rattle.txn_core.specs.Protocol.{after, Protocol}
use Rattle.txn_core.specs.Indexing.{Indexing, indexed}
use Rattle.txn_core.specs.Service.{Service, Asked, Reply, History}
use Rattle.txn_core.specs.Effects.{Effect, Wrote, Applied, Changed}
use Rattle.txn_core.specs.State.{State, kept_or, image_or, state_after}
use Rattle.txn_core.specs.History.{effect_of, effects}

-- a change of an index row
abbrev pub change : {K V : Type 0} → ℕ → K → Option V → Change K V
change index row_key after = record { index = index; key = row_key; after = after }

-- what a PeekOut showed
abbrev pub out_of : {K V A F B : Type 0} → Answer K V A F B → Option (Out K V)
out_of (Answer.Out sequence index target row_key after) = Some (showing sequence (change index row_key after))
out_of _ = None

-- the outbox's first has this sequence
abbrev pub has_sequence : {K V : Type 0} → Option (Out K V) → ℕ → Bool
has_sequence None s = false
has_sequence (Some o) s = nat_eq s o.sequence

-- what a message of the feed does; any other does nothing
abbrev pub message_event : {K V A F C D Q B : Type 0} → Message K V A F D Q → Answer K V A F B → FeedEvent K V C
message_event (Message.PeekOut source) a = Peeks source (out_of a)
message_event (Message.ApplyIndex source sequence index row_key after) a = Feeds source sequence (change index row_key after)
message_event (Message.Ack source sequence) a = Acks source sequence
message_event _ a = Rests

-- what an effect does: it sets an item, or the catalog with the items that come and go; any other does what the message does
module _ {K V A F C D : Type 0} (P : Protocol K V A F C D) (X : Indexing K V C D) where
  abbrev pub item_event : State K V A C → Effect K A D → FeedEvent K V C → FeedEvent K V C
  item_event w (Wrote a moment) x =
      let k = P.key_of a in
      Sets k (after (P.act w.catalog a (w.spot k).row) (w.spot k).row)
  item_event w (Applied n k) x = Sets k (image_or (w.spot k).row (w.spot k).pend)
  item_event w (Changed d moment) x =
      let next = P.change d moment w.catalog in
      Commands next (X.brings d w.catalog)
      (λ q. kept_or (P.there w.catalog q) (P.there next q) (w.spot q).row (P.adds d w.catalog q))
  item_event w _ x = x

module _ {K V A F C D Q B : Type 0} (S : Service K V A F C D Q B) where
  -- what an entry does, by the state before it
  abbrev pub event_of : State K V A C → ℕ → Asked S → Reply S → FeedEvent K V C
  event_of w moment m a = item_event S.core S.index w (effect_of moment m a) (message_event m a)

  abbrev pub feed_events : History S → List (FeedEvent K V C)
  feed_events [] = []
  feed_events (e ∷ es) = event_of (state_after S.core (effects es)) e.moment e.message e.answer ∷ feed_events es

  -- the outboxes, marks and index rows after a history
  abbrev pub feed_after : History S → Feed K V C
  feed_after es = feed (indexed S.core S.index) S.core.empty (feed_events es)

  -- the rows that a page of the cell is of, in the order of keys: the cell's items, or those of an index
  abbrev pub rows_for : History S → ℕ → Option ℕ → List (K × V)
  rows_for es i None = items_in (indexed S.core S.index) (feed_after es) i
  rows_for es i (Some g) = rows_in (indexed S.core S.index) (feed_after es) g i
