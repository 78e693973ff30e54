-- What a cell answers to a message on an item, and what it leaves, by what it keeps of the item.
use Rattle.std.specs.Prelude.{◌≡◌, ℕ, ◌+◌, ◌&&◌, nat_eq, nat_lt, Bool, true, false, if◌then◌else◌, drop, Option, None, Some, IsSome}
use Rattle.std.specs.Ordering.{nat_cmp}
use Rattle.std.specs.BTreeMap.{is_at}
use Rattle.std.specs.declared.cmp.Ord as ord
use Rattle.std.specs.declared.cmp.PartialEq as eq
use Rattle.std.specs.declared.cmp.PartialOrd as partial
use Rattle.index_feed.specs.declared.change.Change.{Change}
use Rattle.index_feed.specs.Feed.{changes, peek, served}
use Rattle.txn_core.specs.declared.stamp.Stamp.{Stamp}
use Rattle.txn_core.specs.Indexing.{indexed}
use Rattle.txn_core.specs.Service.{Service, Reply}
use Rattle.txn_core.specs.Stamps.{single}
use Rattle.txn_core.specs.Protocol.{after}
use Rattle.txn_core.specs.declared.outcome.Outcome.{Outcome}
use Rattle.txn_core.specs.Answers.{ack_answer, apply_answer, expire_answer, get_answer, out_answer, prepare_answer, release_answer, version_answer, write_answer}
use Rattle.txn_core.specs.Legal.{only_expired}
use Rattle.item_store.specs.declared.slot.Slot.{Slot}
use Rattle.item_store.specs.Slots.{holder_of, last_of, pending_of, row_of, version_of}
use Rattle.item_store.specs.Changes.{slot_at}
use Rattle.global_index.specs.Marks.{mark_in}
use Rattle.global_index.specs.Outboxes.{has_first}
use Rattle.global_index.specs.Rows.{row_under}
use Rattle.partition.specs.declared.cell.Partition.{Partition}
use Rattle.partition.specs.Changes.{HoldsItem, IsUnprepared, ReleasesItem, SettlesItem, Unchanged, WritesItem, set_at}

module _
    {K V A F C D Q B : Type 0} (S : Service K V A F C D Q B) {O : ord.Ghosts K} {E : eq.Ghosts K} {P : partial.Ghosts K}
    {N : Type 0} {X : ord.Ghosts N} {Y : eq.Ghosts N} {Z : partial.Ghosts N} where
  -- what the cell keeps of a key's item
  abbrev pub kept_at : Partition K V C N O E P X Y Z → K → Option (Slot V)
  kept_at c k = slot_at c.items (S.core.table k) k

  -- what an action makes of its item
  abbrev pub outcome_at : Partition K V C N O E P X Y Z → A → Outcome V F
  outcome_at c action = S.core.act c.catalog action (row_of (kept_at c (S.core.key_of action)))

  -- what is answered
  abbrev pub got : Partition K V C N O E P X Y Z → K → Reply S
  got c k = get_answer (S.core.there c.catalog k) (row_of (kept_at c k))

  abbrev pub versioned : Partition K V C N O E P X Y Z → K → Reply S
  versioned c k =
      let s = kept_at c k in
      let version = version_of c.items.counts.gone s in
      version_answer (S.core.there c.catalog k) (row_of s) version version (holder_of s)

  abbrev pub wrote : Partition K V C N O E P X Y Z → A → Reply S
  wrote c action =
      let k = S.core.key_of action in
      let s = kept_at c k in
      write_answer (S.core.there c.catalog k) (holder_of s) (row_of s) (outcome_at c action)

  abbrev pub expired : Partition K V C N O E P X Y Z → A → ℕ → Reply S
  expired c action moment =
      let k = S.core.key_of action in
      let s = kept_at c k in
      expire_answer (S.core.there c.catalog k) (holder_of s) (only_expired S c.catalog k moment (row_of s)) (outcome_at c action)

  abbrev pub prepared : Partition K V C N O E P X Y Z → ℕ → Stamp → A → Reply S
  prepared c n stamp action =
      let k = S.core.key_of action in
      let s = kept_at c k in
      let last = last_of c.items.counts.floor s in
      prepare_answer (S.core.there c.catalog k) (holder_of s) n last stamp (row_of s) (outcome_at c action)

  abbrev pub applied : Partition K V C N O E P X Y Z → ℕ → K → Reply S
  applied c n k = apply_answer (holder_of (kept_at c k)) n

  abbrev pub released : Partition K V C N O E P X Y Z → ℕ → K → Reply S
  released c n k = release_answer (holder_of (kept_at c k)) n

  -- what is left of the cell: after a write that made the item this
  abbrev pub Written : Partition K V C N O E P X Y Z → Partition K V C N O E P X Y Z → K → Option V → ℕ → Type 0
  Written c d k row moment =
      WritesItem c d (S.core.table k) k row (single moment) (changes (indexed S.core S.index) c.catalog k (row_of (kept_at c k)) row)

  -- after a Write, where it was carried out or not
  abbrev pub LeftByWrite : Partition K V C N O E P X Y Z → Partition K V C N O E P X Y Z → A → ℕ → Bool → Type 0
  LeftByWrite c d action moment true =
      let k = S.core.key_of action in
      let s = kept_at c k in
      (pending_of s ≡ None) × Written c d k (after (outcome_at c action) (row_of s)) moment
  LeftByWrite c d action moment false = Unchanged c d

  -- where nobody holds a key's item, nothing is set aside for it
  pub record IsClean (c : Partition K V C N O E P X Y Z) (k : K) : Type 0 where
    pub unprepared : holder_of (kept_at c k) ≡ None → IsUnprepared c k

  -- after a Prepare that held the item, which will be this
  abbrev pub HeldFor : Partition K V C N O E P X Y Z → Partition K V C N O E P X Y Z → K → ℕ → Stamp → Option V → Type 0
  HeldFor c d k n stamp image =
      HoldsItem c d (S.core.table k) k (record { number = n; stamp = stamp; image = image })
      (set_at c k (changes (indexed S.core S.index) c.catalog k (row_of (kept_at c k)) image))

  -- by who held it before
  abbrev pub HeldOrSame : Partition K V C N O E P X Y Z → Partition K V C N O E P X Y Z → A → ℕ → Stamp → Option ℕ → Type 0
  HeldOrSame c d action n stamp None =
      let k = S.core.key_of action in HeldFor c d k n stamp (after (outcome_at c action) (row_of (kept_at c k)))
  HeldOrSame c d action n stamp (Some m) = Unchanged c d

  -- after a Prepare, where it was accepted or not
  abbrev pub LeftByPrepare : Partition K V C N O E P X Y Z → Partition K V C N O E P X Y Z → A → ℕ → Stamp → Bool → Type 0
  LeftByPrepare c d action n stamp true = HeldOrSame c d action n stamp (holder_of (kept_at c (S.core.key_of action)))
  LeftByPrepare c d action n stamp false = Unchanged c d

  -- after an Apply and a Release, where they were carried out or not
  abbrev pub LeftByApply : Partition K V C N O E P X Y Z → Partition K V C N O E P X Y Z → K → Bool → Type 0
  LeftByApply c d k true = IsSome (pending_of (kept_at c k)) × SettlesItem c d (S.core.table k) k
  LeftByApply c d k false = Unchanged c d

  abbrev pub LeftByRelease : Partition K V C N O E P X Y Z → Partition K V C N O E P X Y Z → K → Bool → Type 0
  LeftByRelease c d k true = ReleasesItem c d (S.core.table k) k
  LeftByRelease c d k false = Unchanged c d

  -- the first change that waits, as it is shown; whether it has this number
  abbrev pub shown_by : Partition K V C N O E P X Y Z → Reply S
  shown_by c = out_answer S.core.cell_of (peek c.outbox.sent c.outbox.waiting.items)

  abbrev pub acked_by : Partition K V C N O E P X Y Z → ℕ → Reply S
  acked_by c s = ack_answer (has_first c.outbox.sent c.outbox.waiting.items s)

  -- a source's change was not carried out yet, and its index is there
  abbrev pub fed_by : Partition K V C N O E P X Y Z → ℕ → ℕ → Change K V → Bool
  fed_by c source s x = nat_lt (mark_in c.marks.last.items source) s && served (indexed S.core S.index) c.catalog x.index (S.index.item_of x.key)

  -- after an ApplyIndex that was carried out: the mark, and the row
  pub record Carries (c d : Partition K V C N O E P X Y Z) (source s : ℕ) (x : Change K V) : Type 0 where
    pub partitions : d.partitions ≡ c.partitions
    pub catalog : d.catalog ≡ c.catalog
    pub items : d.items ≡ c.items
    pub outbox : d.outbox ≡ c.outbox
    pub prepared : d.prepared ≡ c.prepared
    pub marks : (j : ℕ) → mark_in d.marks.last.items j ≡ (if nat_eq source j then s else mark_in c.marks.last.items j)
    pub rows :
        (g : ℕ) (q : K) → row_under O.cmp d.rows.indexes g q
        ≡ (if is_at (nat_cmp x.index) g && is_at (O.cmp x.key) q then x.after else row_under O.cmp c.rows.indexes g q)

  -- after an ApplyIndex, where it was carried out or not
  abbrev pub LeftByFeed : Partition K V C N O E P X Y Z → Partition K V C N O E P X Y Z → ℕ → ℕ → Change K V → Bool → Type 0
  LeftByFeed c d source s x true = Carries c d source s x
  LeftByFeed c d source s x false = Unchanged c d

module _
    {K V C : Type 0} {O : ord.Ghosts K} {E : eq.Ghosts K} {P : partial.Ghosts K}
    {N : Type 0} {X : ord.Ghosts N} {Y : eq.Ghosts N} {Z : partial.Ghosts N} where
  -- after an Ack: the first change goes, where it has this number
  pub record LeftByAck (c d : Partition K V C N O E P X Y Z) (s : ℕ) : Type 0 where
    pub partitions : d.partitions ≡ c.partitions
    pub catalog : d.catalog ≡ c.catalog
    pub items : d.items ≡ c.items
    pub prepared : d.prepared ≡ c.prepared
    pub marks : d.marks ≡ c.marks
    pub rows : d.rows ≡ c.rows
    pub waiting :
        d.outbox.waiting.items
        ≡ (if has_first c.outbox.sent c.outbox.waiting.items s then drop 1 c.outbox.waiting.items else c.outbox.waiting.items)
    pub sent : d.outbox.sent ≡ (if has_first c.outbox.sent c.outbox.waiting.items s then c.outbox.sent + 1 else c.outbox.sent)

  -- nothing changes, where memory is refused to an ApplyIndex
  pub record KeepsRows (c d : Partition K V C N O E P X Y Z) : Type 0 where
    pub partitions : d.partitions ≡ c.partitions
    pub catalog : d.catalog ≡ c.catalog
    pub items : d.items ≡ c.items
    pub outbox : d.outbox ≡ c.outbox
    pub prepared : d.prepared ≡ c.prepared
    pub marks : d.marks ≡ c.marks
    pub rows : (g : ℕ) (q : K) → row_under O.cmp d.rows.indexes g q ≡ row_under O.cmp c.rows.indexes g q
