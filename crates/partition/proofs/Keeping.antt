-- What a cell keeps of an item is what a state has of it, and so are its answers.
use Rattle.std.specs.Prelude.{is_some}
use Rattle.std.proofs.Common.{◌≡◌, ℕ, ◌&&◌, Bool, true, false, if◌then◌else◌, Option, None, Some, refl, ap, ◌∙◌}
use Rattle.std.proofs.lemmas.Bool.{cond-true, eq-eqb}
use Rattle.std.specs.declared.cmp.Ord as ord
use Rattle.std.specs.declared.cmp.PartialEq as eq
use Rattle.std.specs.declared.cmp.PartialOrd as partial
use Rattle.index_feed.specs.Feed.{Feed}
use Rattle.txn_core.specs.declared.stamp.Stamp.{Stamp}
use Rattle.txn_core.specs.Service.{Service}
use Rattle.txn_core.specs.State.{Pending as Held, Spot, State, Tally, holder, last, tally_after}
use Rattle.txn_core.specs.Answers.{get_answer, write_answer, expire_answer, prepare_answer, apply_answer, release_answer, version_answer}
use Rattle.txn_core.specs.Legal.{only_expired}
use Rattle.item_store.specs.declared.slot.Committed.{Committed}
use Rattle.item_store.specs.declared.slot.Pending.{Pending}
use Rattle.item_store.specs.Slots.{committed_at, committed_of, counted, holder_of, item_of, last_of, left_absent, number_of, pending_of, row_of, slot_of, stamp_or, version_of, version_or}
use Rattle.partition.specs.declared.cell.Partition.{Partition}
use Rattle.partition.specs.Holds.{Holds, lives, pending_for, slot_for}
use Rattle.partition.specs.Knows.{applied, expired, got, kept_at, prepared, released, versioned, wrote}
use Rattle.partition.specs.Says.{apply_says, expire_says, get_says, prepare_says, release_says, version_says, write_says}

module _ {V : Type 0} where
  pub committed_made : (c : Option (Committed V)) (p : Option (Pending V)) → committed_of (slot_of c p) ≡ c
  committed_made None None = refl
  committed_made None (Some p) = refl
  committed_made (Some c) p = refl

  pub pending_made : (c : Option (Committed V)) (p : Option (Pending V)) → pending_of (slot_of c p) ≡ p
  pending_made None None = refl
  pending_made None (Some p) = refl
  pending_made (Some c) p = refl

  pub item_back : (r : Option V) (s : Stamp) (v : ℕ) → item_of (committed_at r s v) ≡ r
  item_back None s v = refl
  item_back (Some x) s v = refl

  stamp_back : (floor : Stamp) (r : Option V) (s : Stamp) (v : ℕ) → stamp_or floor (committed_at r s v) ≡ (if is_some r then s else floor)
  stamp_back floor None s v = refl
  stamp_back floor (Some x) s v = refl

  version_back : (gone : ℕ) (r : Option V) (s : Stamp) (v : ℕ) → version_or gone (committed_at r s v) ≡ (if is_some r then v else gone)
  version_back gone None s v = refl
  version_back gone (Some x) s v = refl

  number_back : (p : Option (Held V)) → number_of (pending_for p) ≡ holder p
  number_back None = refl
  number_back (Some p) = refl

  pub committed_back : (s : Spot V) → committed_of (slot_for s) ≡ committed_at s.row s.stamp s.version
  committed_back s = committed_made (committed_at s.row s.stamp s.version) (pending_for s.pend)

  pub pending_back : (s : Spot V) → pending_of (slot_for s) ≡ pending_for s.pend
  pending_back s = pending_made (committed_at s.row s.stamp s.version) (pending_for s.pend)

  pub row_back : (s : Spot V) → row_of (slot_for s) ≡ s.row
  row_back s = ap item_of (committed_back s) ∙ item_back s.row s.stamp s.version

  pub holder_back : (s : Spot V) → holder_of (slot_for s) ≡ holder s.pend
  holder_back s = ap number_of (pending_back s) ∙ number_back s.pend

  pub last_back : (t : Tally) (s : Spot V) → last_of t.floor (slot_for s) ≡ last t s
  last_back t s = ap (λ c. stamp_or t.floor c) (committed_back s) ∙ stamp_back t.floor s.row s.stamp s.version

  pub version_is : (gone : ℕ) (s : Spot V) → version_of gone (slot_for s) ≡ (if is_some s.row then s.version else gone)
  version_is gone s = ap (λ c. version_or gone c) (committed_back s) ∙ version_back gone s.row s.stamp s.version

  -- floor and numbers after a change are the same in a cell and in the state
  pub counted_is : (t : Tally) (s : Spot V) (row : Option V) (own : Stamp) → counted t (slot_for s) row own ≡ tally_after t s row own
  counted_is t s (Some x) own = refl
  counted_is t s None own = ap (λ l. left_absent t l own) (last_back t s)

module _
    {K V A F C D Q B : Type 0} (S : Service K V A F C D Q B) {O : ord.Ghosts K} {E : eq.Ghosts K} {P : partial.Ghosts K}
    {N : Type 0} {X : ord.Ghosts N} {Y : eq.Ghosts N} {Z : partial.Ghosts N}
    (k : K) (c : Partition K V C N O E P X Y Z) (w : State K V A C) (f : Feed K V C) (here : Holds S (S.core.cell_of k) c w f) where
  pub lives_here : lives S (S.core.cell_of k) (S.core.table k) k ≡ true
  lives_here = λ j. eq-eqb (S.core.table k) (S.core.table k) refl j && eq-eqb (S.core.cell_of k) (S.core.cell_of k) refl j

  pub kept_is : kept_at S c k ≡ slot_for (w.spot k)
  kept_is = here.items (S.core.table k) k ∙ cond-true (lives S (S.core.cell_of k) (S.core.table k) k) (slot_for (w.spot k)) None lives_here

  pub row_is : row_of (kept_at S c k) ≡ (w.spot k).row
  row_is = ap row_of kept_is ∙ row_back (w.spot k)

  pub holder_is : holder_of (kept_at S c k) ≡ holder (w.spot k).pend
  holder_is = ap holder_of kept_is ∙ holder_back (w.spot k)

  pub last_is : last_of c.items.counts.floor (kept_at S c k) ≡ last (w.cell (S.core.cell_of k)) (w.spot k)
  last_is = (λ j. last_of (here.numbers j).floor (kept_is j)) ∙ last_back (w.cell (S.core.cell_of k)) (w.spot k)

  pub get_is : got S c k ≡ get_says S w k
  get_is = λ j. get_answer (S.core.there (here.catalog j) k) (row_is j)

  pub version_told : versioned S c k ≡ version_says S w k
  version_told =
      (λ j. version_answer (S.core.there (here.catalog j) k) (row_is j) (told j) (told j) (holder_is j))
      ∙ either (S.core.there w.catalog k) (w.spot k).row (w.spot k).version (w.cell (S.core.cell_of k)).gone (holder (w.spot k).pend)
    where
      told : version_of c.items.counts.gone (kept_at S c k) ≡ (if is_some (w.spot k).row then (w.spot k).version else (w.cell (S.core.cell_of k)).gone)
      told = (λ j. version_of (here.numbers j).gone (kept_is j)) ∙ version_is (w.cell (S.core.cell_of k)).gone (w.spot k)

      either :
          (there : Bool) (r : Option V) (v g : ℕ) (h : Option ℕ)
          → version_answer {K = K} {A = A} {F = F} {B = B} there r (if is_some r then v else g) (if is_some r then v else g) h
          ≡ version_answer there r v g h
      either false r v g h = refl
      either true None v g h = refl
      either true (Some x) v g h = refl

  pub apply_is : (n : ℕ) → applied S c n k ≡ apply_says S w n k
  apply_is n = λ j. apply_answer (holder_is j) n

  pub release_is : (n : ℕ) → released S c n k ≡ release_says S w n k
  release_is n = λ j. release_answer (holder_is j) n

module _
    {K V A F C D Q B : Type 0} (S : Service K V A F C D Q B) {O : ord.Ghosts K} {E : eq.Ghosts K} {P : partial.Ghosts K}
    {N : Type 0} {X : ord.Ghosts N} {Y : eq.Ghosts N} {Z : partial.Ghosts N}
    (a : A) (c : Partition K V C N O E P X Y Z) (w : State K V A C) (f : Feed K V C) (here : Holds S (S.core.cell_of (S.core.key_of a)) c w f) where
  pub write_is : wrote S c a ≡ write_says S w a
  write_is =
      let k = S.core.key_of a in
      λ j. write_answer (S.core.there (here.catalog j) k) (holder_is S k c w f here j) (row_is S k c w f here j) (S.core.act (here.catalog j) a (row_is S k c w f here j))

  pub expire_is : (moment : ℕ) → expired S c a moment ≡ expire_says S w a moment
  expire_is moment =
      let k = S.core.key_of a in
      λ j.
      let row = row_is S k c w f here j in
      let cat = here.catalog j in
      expire_answer (S.core.there cat k) (holder_is S k c w f here j) (only_expired S cat k moment row) (S.core.act cat a row)

  pub prepare_is : (n : ℕ) (stamp : Stamp) → prepared S c n stamp a ≡ prepare_says S w n stamp a
  prepare_is n stamp =
      let k = S.core.key_of a in
      λ j. prepare_answer (S.core.there (here.catalog j) k) (holder_is S k c w f here j) n (last_is S k c w f here j) stamp (row_is S k c w f here j) (S.core.act (here.catalog j) a (row_is S k c w f here j))
