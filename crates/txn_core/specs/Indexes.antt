-- What holds of index rows, outboxes and pages in every legal history, one definition a law.
use Rattle.std.specs.Prelude.{◌≡◌, ◌⊎◌, ℕ, ◌≤◌, Bool, true, false, List, [], ◌∷◌, Option, None, Some}
use Rattle.index_feed.specs.declared.change.Change.{Change}
use Rattle.index_feed.specs.Feed.{overlay, projected, served}
use Rattle.index_feed.specs.Laws.{IsListOf}
use Rattle.txn_core.specs.declared.message.Message.{Message}
use Rattle.txn_core.specs.declared.answer.Answer.{Answer}
use Rattle.txn_core.specs.Indexing.{indexed}
use Rattle.txn_core.specs.Service.{Service, Asked, Reply, Event, History}
use Rattle.txn_core.specs.Serial.{waiting}
use Rattle.txn_core.specs.History.{is_written, is_expired, is_applied, is_changed, effects, Had}
use Rattle.txn_core.specs.Feeding.{feed_after, rows_for}
use Rattle.txn_core.specs.Legal.{feeds, IsAnswer, IsLegal}
use Rattle.txn_core.specs.Laws.{catalog_by, item_by, shown_by, enters_order}

-- the same changes, or all but the first
abbrev pub IsRestOf : {X : Type 0} → List X → List X → Type 0
IsRestOf {X} xs ys = (ys ≡ xs) ⊎ ((x : X) × (xs ≡ x ∷ ys))

module _ {K V A F C D Q B : Type 0} (S : Service K V A F C D Q B) where
  -- the row of an index at a key, and the changes that wait in an outbox
  abbrev pub index_row : History S → ℕ → K → Option V
  index_row es g q = (feed_after S es).shown g q

  abbrev pub outbox : History S → ℕ → List (Change K V)
  outbox es i = (feed_after S es).outbox i

  -- how many changes of an outbox were acknowledged
  abbrev pub acknowledged : History S → ℕ → ℕ
  acknowledged es i = (feed_after S es).sent i

  -- the catalog has the index of the row's item
  abbrev pub is_served : History S → ℕ → K → Bool
  is_served es g q = served (indexed S.core S.index) (catalog_by S es) g (S.index.item_of q)

  -- the row that an index has at a key of these items, by the catalog of the one order
  abbrev pub projection_of : (K → Option V) → History S → ℕ → K → Option V
  projection_of items es g q = projected (indexed S.core S.index) (catalog_by S es) items g q

  -- and of the items of the tables
  abbrev pub projection : History S → ℕ → K → Option V
  projection es g q = projection_of (item_by S es) es g q

  -- at a beginning of the history the row was the projection of the tables
  abbrev pub WasProjection : History S → ℕ → K → V → Type 0
  WasProjection [] g q r = ⊥
  WasProjection (e ∷ es) g q r = (projection (e ∷ es) g q ≡ Some r) ⊎ WasProjection es g q r

  -- [Index rows project]: each row of an index was the projection of the tables at a beginning of the history
  abbrev pub IndexRowsProject : Type 0
  IndexRowsProject =
      (es : History S) → IsLegal S es → (g : ℕ) (q : K) (r : V) → index_row es g q ≡ Some r → WasProjection es g q r

  -- an index that is not there has no rows
  abbrev pub GoneHasNoRows : Type 0
  GoneHasNoRows =
      (es : History S) → IsLegal S es → (g : ℕ) (q : K) → is_served es g q ≡ false → index_row es g q ≡ None

  -- every outbox is empty, and no item waits for an Apply
  pub record IsDrained (es : History S) : Type 0 where
    pub empty : (i : ℕ) → outbox es i ≡ []
    pub settled : (q : K) → waiting S.core (effects es) q ≡ None

  -- [Drained is projection]: then the rows of each index are the projection of the tables
  abbrev pub DrainedIsProjection : Type 0
  DrainedIsProjection =
      (es : History S) → IsLegal S es → IsDrained es → (g : ℕ) (q : K) → index_row es g q ≡ projection es g q

  -- and at any time, the changes that wait in the outbox of a row's item make the row what it should be by what readers are
  -- shown
  abbrev pub WhatWaitsCompletes : Type 0
  WhatWaitsCompletes =
      (es : History S) → IsLegal S es → (g : ℕ) (q : K) → is_served es g q ≡ true
      → overlay (indexed S.core S.index) (outbox es (S.core.cell_of (S.index.item_of q))) g q (index_row es g q)
      ≡ projection_of (shown_by S es) es g q

  -- [Feeds harmless]: an ApplyIndex that comes again, however late, is answered Already and changes nothing
  abbrev pub RepeatsChangeNothing : Type 0
  RepeatsChangeNothing =
      (e : Event S) (es : History S) → IsLegal S (e ∷ es) → (source sequence index : ℕ) (row_key : K) (after : Option V)
      → e.message ≡ Message.ApplyIndex source sequence index row_key after → Had (feeds S source sequence) es
      → (e.answer ≡ Answer.Already) × (feed_after S (e ∷ es) ≡ feed_after S es)

  -- so does an Ack of what was acknowledged
  abbrev pub AcksChangeOnce : Type 0
  AcksChangeOnce =
      (e : Event S) (es : History S) → IsLegal S (e ∷ es) → (source sequence : ℕ)
      → e.message ≡ Message.Ack source sequence → sequence ≤ acknowledged es source
      → (e.answer ≡ Answer.Nothing) × (feed_after S (e ∷ es) ≡ feed_after S es)

  -- and only what enters the one order changes what the rows of an index should be
  abbrev pub OthersLeaveProjections : Type 0
  OthersLeaveProjections =
      (e : Event S) (es : History S) → enters_order e.message e.answer ≡ false
      → (g : ℕ) (q : K) → projection (e ∷ es) g q ≡ projection es g q

  -- what [Drain drains] needs: an outbox that is answered Empty is empty
  abbrev pub EmptyIsEmpty : Type 0
  EmptyIsEmpty =
      (es : History S) (moment source : ℕ) → IsAnswer S es moment (Message.PeekOut source) Answer.Empty
      → outbox es source ≡ []

  -- the entry sets an item or changes the catalog, so that changes may be queued
  abbrev pub queues : Asked S → Reply S → Bool
  queues (Message.Write action) a = is_written a
  queues (Message.Expire action) a = is_expired a
  queues (Message.Apply n key) a = is_applied a
  queues (Message.Command d) a = is_changed a
  queues _ a = false

  -- any other entry leaves an outbox as it is, or takes its first away
  abbrev pub OthersQueueNothing : Type 0
  OthersQueueNothing =
      (e : Event S) (es : History S) → queues e.message e.answer ≡ false → (i : ℕ)
      → IsRestOf (outbox es i) (outbox (e ∷ es) i)

  -- a page of a table is of the items that readers are shown, all those of its cell
  abbrev pub TablePagesAreShown : Type 0
  TablePagesAreShown =
      (es : History S) → IsLegal S es → (i : ℕ)
      → IsListOf (indexed S.core S.index) i (shown_by S es) (rows_for S es i None)

  -- and a page of an index is of its rows, all those of its cell
  abbrev pub IndexPagesAreShown : Type 0
  IndexPagesAreShown =
      (es : History S) → IsLegal S es → (i g : ℕ)
      → IsListOf (indexed S.core S.index) i (index_row es g) (rows_for S es i (Some g))
