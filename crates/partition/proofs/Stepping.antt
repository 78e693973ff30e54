-- What is left of a cell by a message on an item is the state and the feed after it.
use Rattle.std.proofs.Common.{◌≡◌, ℕ, ◌+◌, ◌++◌, nat_eq, Bool, true, false, if◌then◌else◌, List, [], Option, None, Some, IsSome, IsTrue, refl, sym, ap, ◌∙◌, subst}
use Rattle.std.proofs.lemmas.Bool.{cond-true, eq-eqb}
use Rattle.std.proofs.lemmas.List.{append-nil}
use Rattle.std.specs.declared.cmp.Ord as ord
use Rattle.std.specs.declared.cmp.PartialEq as eq
use Rattle.std.specs.declared.cmp.PartialOrd as partial
use Rattle.index_feed.specs.declared.change.Change.{Change}
use Rattle.index_feed.specs.Feed.{Feed, Sets, Rests, changes, step as feed_step}
use Rattle.txn_core.specs.declared.stamp.Stamp.{Stamp}
use Rattle.txn_core.specs.Indexing.{indexed}
use Rattle.txn_core.specs.Service.{Service, IsServiceLawful}
use Rattle.txn_core.specs.Protocol.{after}
use Rattle.txn_core.specs.Stamps.{later, single}
use Rattle.txn_core.specs.Answers.{is_holder}
use Rattle.txn_core.specs.Cells.{item}
use Rattle.txn_core.specs.Effects.{Wrote, Prepared, Applied, Released}
use Rattle.txn_core.specs.History.{where_so}
use Rattle.txn_core.specs.Feeding.{item_event}
use Rattle.txn_core.specs.State.{Pending as Held, Spot, State, Tally, hold, holder, image_or, on_key, spot_applied, spot_prepared, spot_released, spot_wrote, stamp_or, step, tally_after}
use Rattle.item_store.specs.declared.slot.Pending.{Pending}
use Rattle.item_store.specs.Slots.{committed_at, committed_of, counted, holder_of, image_of, number_of, pending_of, row_of, slot_of, stamp_of}
use Rattle.item_store.specs.Counts.{tally}
use Rattle.index_changes.specs.Prepared.{prepared_in}
use Rattle.partition.specs.declared.cell.Partition.{Partition}
use Rattle.partition.specs.Holds.{Holds, pending_for, queued_by}
use Rattle.partition.specs.Stores.{slot_held, slot_let_go, slot_settled, slot_written}
use Rattle.partition.specs.Changes.{IsUnprepared, set_at}
use Rattle.partition.specs.Knows.{HeldFor, HeldOrSame, IsClean, LeftByApply, LeftByPrepare, LeftByRelease, LeftByWrite, kept_at, outcome_at}
use Rattle.partition.proofs.Keeping.{committed_back, counted_is, holder_is, kept_is, last_is, pending_back, row_is}
use Rattle.index_changes.proofs.Keys.{at_is, one_key}
use Rattle.partition.proofs.Changing.{FeedFollows, changed, moved_to, same_ready, set_ready, unchanged}

module _ {V : Type 0} where
  pub none_held : (p : Option (Held V)) → holder p ≡ None → p ≡ None
  none_held None e = refl
  none_held (Some p) e = absurd (cc)

  some_held : (p : Option (Held V)) → IsSome (pending_for p) → (q : Held V) × (p ≡ Some q)
  some_held None e = absurd (cc)
  some_held (Some q) e = (q, refl)

  hold_first : (p : Option (Held V)) (q : Held V) → p ≡ None → hold p q ≡ Some q
  hold_first None q e = refl
  hold_first (Some r) q e = absurd (cc)

  hold_again : (p : Option (Held V)) (q : Held V) (n : ℕ) → holder p ≡ Some n → hold p q ≡ p
  hold_again None q n e = absurd (cc)
  hold_again (Some r) q n e = refl

  -- nothing is pending where nobody holds the item
  pub free_slot : (p : Option (Pending V)) → number_of p ≡ None → p ≡ None
  free_slot None e = refl
  free_slot (Some p) e = absurd (cc)

  -- something is where one holds it
  pub held_slot : (p : Option (Pending V)) (n : ℕ) → IsTrue (is_holder (number_of p) n) → IsSome p
  held_slot None n e = absurd (cc)
  held_slot (Some p) n e = refl

module _
    {K V A F C D Q B : Type 0} (S : Service K V A F C D Q B) (law : IsServiceLawful S)
    {O : ord.Ghosts K} {E : eq.Ghosts K} {P : partial.Ghosts K}
    {N : Type 0} {X : ord.Ghosts N} {Y : eq.Ghosts N} {Z : partial.Ghosts N} (ordered : (x y : K) → S.index.cmp x y ≡ O.cmp x y)
    (k : K) (c d : Partition K V C N O E P X Y Z) (w : State K V A C) (f : Feed K V C) (here : Holds S (S.core.cell_of k) c w f) where
  abbrev own : Spot V
  own = w.spot k

  abbrev cell : Tally
  cell = w.cell (S.core.cell_of k)

  its_cell : nat_eq (S.core.cell_of k) (S.core.cell_of k) ≡ true
  its_cell = eq-eqb (S.core.cell_of k) (S.core.cell_of k) refl

  ready_is : prepared_in O.cmp c.prepared.lists k ≡ queued_by S w.catalog k own.row own.pend
  ready_is = here.prepared k ∙ cond-true (nat_eq (S.core.cell_of k) (S.core.cell_of k)) (queued_by S w.catalog k own.row own.pend) [] its_cell

  -- an item whose row stays: the feed rests
  rests :
      (h : Spot V → Spot V) (s : Tally) → ((z : Spot V) → (h z).row ≡ z.row)
      → FeedFollows S (S.core.cell_of k) f f (on_key S.core w k h s) []
  rests h s same =
      record {
        catalog = refl;
        row = λ q at_q. here.shown q at_q ∙ rows q (S.core.same k q);
        outbox = sym (append-nil (f.outbox (S.core.cell_of k)));
        sent = refl;
        mark = λ j. refl;
        shown = λ x q. refl;
      }
    where
      rows : (q : K) (b : Bool) → (w.spot q).row ≡ (if b then h (w.spot q) else w.spot q).row
      rows q true = sym (same (w.spot q))
      rows q false = refl

  -- an item whose row is set
  sets :
      (h : Spot V → Spot V) (s : Tally) (row : Option V) → (h own).row ≡ row → (queued : List (Change K V))
      → queued ≡ changes (indexed S.core S.index) f.catalog k (f.row k) row
      → FeedFollows S (S.core.cell_of k) f (feed_step (indexed S.core S.index) f (Sets k row)) (on_key S.core w k h s) queued
  sets h s row row_is queued queued_is =
      record {
        catalog = refl;
        row = λ q at_q. rows q at_q (S.core.same k q) refl;
        outbox = (λ j. f.outbox (S.core.cell_of k) ++ (if its_cell j then sym queued_is j else []));
        sent = refl;
        mark = λ j. refl;
        shown = λ x q. refl;
      }
    where
      rows :
          (q : K) → S.core.cell_of q ≡ S.core.cell_of k → (b : Bool) → S.core.same k q ≡ b
          → (if b then row else f.row q) ≡ (if b then h (w.spot q) else w.spot q).row
      rows q at_q true e = subst (λ z. row ≡ (h (w.spot z)).row) (one_key S law k q e) (sym row_is)
      rows q at_q false e = here.shown q at_q

  -- what waits for the indexes, by the feed
  abbrev in_feed : Option V → List (Change K V)
  in_feed row = changes (indexed S.core S.index) f.catalog k (f.row k) row

  in_state : (row : Option V) → changes (indexed S.core S.index) w.catalog k own.row row ≡ in_feed row
  in_state row = λ j. changes (indexed S.core S.index) (sym here.under j) k (sym (here.shown k refl) j) row

  -- after an Apply
  pub applied_holds :
      (n : ℕ) (b : Bool) → LeftByApply S c d k b
      → Holds S (S.core.cell_of k) d (step S.core w (where_so b (Applied n k)))
      (feed_step (indexed S.core S.index) f (item_event S.core S.index w (where_so b (Applied n k)) Rests))
  applied_holds n false left = unchanged S (S.core.cell_of k) c d w f left here
  applied_holds n true left =
      let held = some_held own.pend (subst (λ p. IsSome p) (ap pending_of (kept_is S k c w f here) ∙ pending_back own) left.0) in
      let q : Held V = held.0 in
      let pend : own.pend ≡ Some q = held.1 in
      let kept_pend : pending_of (kept_at S c k) ≡ pending_for (Some q) = ap pending_of (kept_is S k c w f here) ∙ pending_back own ∙ ap pending_for pend in
      let row : Option V = image_or own.row own.pend in
      let numbers : Tally = tally_after cell own row (stamp_or own.stamp own.pend) in
      changed S law ordered k c d w f (feed_step (indexed S.core S.index) f (Sets k row)) here (spot_applied cell n)
      (slot_settled (tally c.items.counts) (kept_at S c k))
      (counted (tally c.items.counts) (kept_at S c k) (image_of (pending_of (kept_at S c k))) (stamp_of (pending_of (kept_at S c k))))
      numbers (set_at c k []) (prepared_in O.cmp c.prepared.lists k) left.1
      ((λ j. slot_of (committed_at (image_of (kept_pend j)) (stamp_of (kept_pend j)) ((here.numbers j).count + 1)) None)
      ∙ (λ j. slot_of (committed_at (image_or own.row (sym pend j)) (stamp_or own.stamp (sym pend j)) (cell.count + 1)) None))
      ((λ j. counted (here.numbers j) (kept_is S k c w f here j) (image_of (kept_pend j)) (stamp_of (kept_pend j)))
      ∙ counted_is cell own q.image q.stamp
      ∙ (λ j. tally_after cell own (image_or own.row (sym pend j)) (stamp_or own.stamp (sym pend j))))
      (set_ready S law ordered k c w f here (spot_applied cell n) [] refl)
      (sets (spot_applied cell n) numbers row refl (prepared_in O.cmp c.prepared.lists k)
      (ready_is ∙ (λ j. queued_by S w.catalog k own.row (pend j)) ∙ (λ j. changes (indexed S.core S.index) w.catalog k own.row (image_or own.row (sym pend j))) ∙ in_state row))

  -- after a Release
  pub released_holds :
      (n : ℕ) (b : Bool) → LeftByRelease S c d k b
      → Holds S (S.core.cell_of k) d (step S.core w (where_so b (Released n k)))
      (feed_step (indexed S.core S.index) f (item_event S.core S.index w (where_so b (Released n k)) Rests))
  released_holds n false left = unchanged S (S.core.cell_of k) c d w f left here
  released_holds n true left =
      changed S law ordered k c d w f f here (λ z. spot_released z) (slot_let_go (kept_at S c k)) (tally c.items.counts) cell (set_at c k []) [] left
      (λ j. slot_of ((ap committed_of (kept_is S k c w f here) ∙ committed_back own) j) None)
      here.numbers (set_ready S law ordered k c w f here (λ z. spot_released z) [] refl) (rests (λ z. spot_released z) cell (λ z. refl))

module _
    {K V A F C D Q B : Type 0} (S : Service K V A F C D Q B) (law : IsServiceLawful S)
    {O : ord.Ghosts K} {E : eq.Ghosts K} {P : partial.Ghosts K}
    {N : Type 0} {X : ord.Ghosts N} {Y : eq.Ghosts N} {Z : partial.Ghosts N} (ordered : (x y : K) → S.index.cmp x y ≡ O.cmp x y)
    (a : A) (c d : Partition K V C N O E P X Y Z) (w : State K V A C) (f : Feed K V C)
    (here : Holds S (S.core.cell_of (S.core.key_of a)) c w f) where
  abbrev k : K
  k = S.core.key_of a

  abbrev spot : Spot V
  spot = w.spot k

  abbrev tallied : Tally
  tallied = w.cell (S.core.cell_of k)

  abbrev made : Option V
  made = after (S.core.act w.catalog a spot.row) spot.row

  made_is : after (outcome_at S c a) (row_of (kept_at S c k)) ≡ made
  made_is = λ j. after (S.core.act (here.catalog j) a (row_is S k c w f here j)) (row_is S k c w f here j)

  -- nobody holds the item
  free : pending_of (kept_at S c k) ≡ None → spot.pend ≡ None
  free none = none_held spot.pend (sym (holder_is S k c w f here) ∙ ap number_of none)

  -- after a Write
  pub wrote_holds :
      (moment : ℕ) (b : Bool) → LeftByWrite S c d a moment b
      → Holds S (S.core.cell_of k) d (step S.core w (where_so b (Wrote a moment)))
      (feed_step (indexed S.core S.index) f (item_event S.core S.index w (where_so b (Wrote a moment)) Rests))
  wrote_holds moment false left = unchanged S (S.core.cell_of k) c d w f left here
  wrote_holds moment true left =
      let pend : spot.pend ≡ None = free left.0 in
      let numbers : Tally = tally_after tallied spot made (single moment) in
      let row : Option V = after (outcome_at S c a) (row_of (kept_at S c k)) in
      let kept = kept_is S k c w f here in
      changed S law ordered k c d w f (feed_step (indexed S.core S.index) f (Sets k made)) here (spot_wrote S.core w.catalog tallied a moment)
      (slot_written (tally c.items.counts) (kept_at S c k) row (single moment))
      (counted (tally c.items.counts) (kept_at S c k) row (single moment)) numbers
      (λ q. prepared_in O.cmp c.prepared.lists q) (changes (indexed S.core S.index) c.catalog k (row_of (kept_at S c k)) row) left.1
      (λ j. slot_of (committed_at (made_is j) (later (last_is S k c w f here j) (single moment)) ((here.numbers j).count + 1)) (pending_for (sym pend j)))
      ((λ j. counted (here.numbers j) (kept j) (made_is j) (single moment)) ∙ counted_is tallied spot made (single moment))
      (same_ready S law ordered k c w f here (spot_wrote S.core w.catalog tallied a moment) ((λ j. queued_by S w.catalog k spot.row (pend j)) ∙ sym (λ j. queued_by S w.catalog k made (pend j))))
      (sets S law ordered k c d w f here (spot_wrote S.core w.catalog tallied a moment) numbers made refl
      (changes (indexed S.core S.index) c.catalog k (row_of (kept_at S c k)) row)
      ((λ j. changes (indexed S.core S.index) (here.catalog j) k (row_is S k c w f here j) (made_is j)) ∙ in_state S law ordered k c d w f here made))

  -- what a Prepare makes of the item
  abbrev held_by : ℕ → Stamp → Held V
  held_by n stamp = record { number = n; stamp = stamp; image = made }

  -- nothing is set aside for an item that nobody holds
  none_ready : holder_of (kept_at S c k) ≡ None → IsUnprepared c k
  none_ready none q e =
      subst (λ z. prepared_in O.cmp c.prepared.lists z ≡ []) (one_key S law k q (sym (at_is S law ordered k q) ∙ e))
      (ready_is S law ordered k c d w f here
      ∙ (λ j. queued_by S w.catalog k spot.row (none_held spot.pend (sym (holder_is S k c w f here) ∙ none) j)))

  pub is_clean : IsClean S c k
  is_clean = record { unprepared = none_ready }

  again :
      (n m : ℕ) (stamp : Stamp) → holder_of (kept_at S c k) ≡ Some m
      → Holds S (S.core.cell_of k) c (step S.core w (Prepared n stamp a)) f
  again n m stamp held =
      moved_to S (S.core.cell_of k) c w (step S.core w (Prepared n stamp a)) f f (λ q at_q. items q (S.core.same k q) refl)
      (sym (cond-true (nat_eq (S.core.cell_of k) (S.core.cell_of k)) tallied tallied (its_cell S law ordered k c d w f here))) refl
      (record { catalog = refl; row = λ q at_q. refl; keys = refl; row_keys = refl; sent = refl; outbox = refl; mark = λ j. refl; shown = λ x q at_q. refl })
      here
    where
      items : (q : K) (b : Bool) → S.core.same k q ≡ b → item (w.spot q) ≡ item (if b then spot_prepared S.core w.catalog n stamp a (w.spot q) else w.spot q)
      items q true e =
          subst (λ z. item (w.spot z) ≡ item (spot_prepared S.core w.catalog n stamp a (w.spot z))) (one_key S law k q e)
          (λ j. record {
            row = spot.row;
            stamp = spot.stamp;
            version = spot.version;
            pend = sym (hold_again spot.pend (held_by n stamp) m (sym (holder_is S k c w f here) ∙ held)) j;
          })
      items q false e = refl

  newly :
      (n : ℕ) (stamp : Stamp) → holder_of (kept_at S c k) ≡ None
      → HeldFor S c d k n stamp (after (outcome_at S c a) (row_of (kept_at S c k)))
      → Holds S (S.core.cell_of k) d (step S.core w (Prepared n stamp a)) f
  newly n stamp none left =
      let pend : spot.pend ≡ None = none_held spot.pend (sym (holder_is S k c w f here) ∙ none) in
      let image : Option V = after (outcome_at S c a) (row_of (kept_at S c k)) in
      let first : hold spot.pend (held_by n stamp) ≡ Some (held_by n stamp) = hold_first spot.pend (held_by n stamp) pend in
      let pending : Pending V = record { number = n; stamp = stamp; image = image } in
      changed S law ordered k c d w f f here (spot_prepared S.core w.catalog n stamp a) (slot_held (kept_at S c k) pending)
      (tally c.items.counts) tallied (set_at c k (changes (indexed S.core S.index) c.catalog k (row_of (kept_at S c k)) image)) [] left
      ((λ j. slot_of ((ap committed_of (kept_is S k c w f here) ∙ committed_back spot) j) (Some (record { number = n; stamp = stamp; image = made_is j })))
      ∙ (λ j. slot_of (committed_at spot.row spot.stamp spot.version) (pending_for (sym first j))))
      here.numbers
      (set_ready S law ordered k c w f here (spot_prepared S.core w.catalog n stamp a) (changes (indexed S.core S.index) c.catalog k (row_of (kept_at S c k)) image)
      ((λ j. changes (indexed S.core S.index) (here.catalog j) k (row_is S k c w f here j) (made_is j)) ∙ (λ j. queued_by S w.catalog k spot.row (sym first j))))
      (rests S law ordered k c d w f here (spot_prepared S.core w.catalog n stamp a) tallied (λ z. refl))

  -- after a Prepare
  pub prepared_holds :
      (n : ℕ) (stamp : Stamp) (b : Bool) → LeftByPrepare S c d a n stamp b
      → Holds S (S.core.cell_of k) d (step S.core w (where_so b (Prepared n stamp a)))
      (feed_step (indexed S.core S.index) f (item_event S.core S.index w (where_so b (Prepared n stamp a)) Rests))
  prepared_holds n stamp false left = unchanged S (S.core.cell_of k) c d w f left here
  prepared_holds n stamp true left = by_holder (holder_of (kept_at S c k)) refl left
    where
      by_holder :
          (h : Option ℕ) → holder_of (kept_at S c k) ≡ h → HeldOrSame S c d a n stamp h
          → Holds S (S.core.cell_of k) d (step S.core w (Prepared n stamp a)) f
      by_holder None e l = newly n stamp e l
      by_holder (Some m) e l = unchanged S (S.core.cell_of k) c d (step S.core w (Prepared n stamp a)) f l (again n m stamp e)
